use Rattle.std.proofs.Common.{◌≡◌, ℕ, List, arith}
use Rattle.std.proofs.lemmas.Grind.{common_steps}
use Rattle.std.proofs.lemmas.Map.Text.{text_keys}
use Rattle.rs01_fakes.specs.Stored.{files_in}
use Rattle.rs01_fakes.proofs.stored.write.Goals as goal

pub returns-in_ok-insert-in-None : goal.returns-in_ok-insert-in-None
returns-in_ok-insert-in-None c = record {
  done = record { there = grind (arith, text_keys); elsewhere = λ other apart. grind (arith, text_keys) };
  within = λ i. grind (arith, text_keys);
}

pub returns-in-Ok : goal.returns-in-Ok
returns-in-Ok c =
    let written = c.get_mut.follows.holds c.write_bytes.new.bytes in
    record {
      done = record {
        there = grind (arith, text_keys, written);
        elsewhere = λ other apart. grind (arith, text_keys, written);
      };
      within = λ i. grind (arith, common_steps);
    }

pub returns-in-Err : goal.returns-in-Err
returns-in-Err c =
    let written = c.get_mut.follows.holds c.write_bytes.new.bytes in
    let same : (other : List ℕ) → files_in (c.get_mut.follows.lender c.write_bytes.new.bytes) other ≡ files_in c.args.files.now other = λ other. grind (arith, text_keys, written) in
    record {
      done = λ i other. same other i;
      within = λ i. grind (arith, text_keys);
    }
