use Rattle.rs01_ecchead.proofs.ErasedLemmas.{erased_is_missing_or_altered, missing_is_not_altered}
use Rattle.rs01_ecchead.proofs.laws.erased_sectors_are_missing_or_altered.Goals as goal

pub returns : goal.returns
returns c = record { either = erased_is_missing_or_altered; not_both = missing_is_not_altered }
