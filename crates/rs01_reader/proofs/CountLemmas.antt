-- The desk's counts of faults and the rack's of asks, over one step and the next.
use Rattle.std.proofs.Common.{◌≡◌, ℕ, ◌<◌, ◌^◌, List, subst}
use Rattle.std.specs.Prelude.{Bool, Result, Ok, Err, false}
use Rattle.rs01_outside.specs.DeskState.{DeskState, OnlyReads, WorksOn}
use Rattle.rs01_outside.proofs.States.{reads-start, works-reads, works-then}
use Rattle.rs01_rack.specs.Rack.{RackState}
use Rattle.rs01_linear.proofs.LastingLemmas.{lasts_then, rack_lasts}
use Rattle.rs01_reader.specs.Steps.{Counts, IsOfReading, is_read_stop, stops_reading, stops_writing}
use Rattle.rs01_reader.specs.declared.setup.Setup.{Setup}
use Rattle.rs01_reader.specs.declared.stop.Stop.{Stop}
use Rattle.rs01_reader.specs.declared.stop.Stop.TheVariants.{OutOfMemory, ReadFault, WriteFault}

-- no file was touched
pub works-start : (name : List ℕ) (desk : DeskState) → WorksOn name desk desk false false
works-start name desk = works-reads name desk desk false (reads-start desk)

-- nothing was done
pub counts-start : {T : Type 0} (setup : Setup) (desk : DeskState) (rack : RackState) (value : T) → rack.asks < 2 ^ 128 → Counts setup desk desk (Ok value) rack rack
counts-start setup desk rack value small = record { works = works-start setup.image.now desk; lasts = rack_lasts rack small }

-- a step behind one that didn't stop
pub counts-then :
    {S T : Type 0} (setup : Setup) (a b c : DeskState) (r s t : RackState) (value : S) (result : Result T Stop)
    → Counts setup a b (Ok value) r s → Counts setup b c result s t → Counts setup a c result r t
counts-then setup a b c r s t value result one other = record {
  works = works-then setup.image.now a b c _ _ one.works other.works;
  lasts = lasts_then r s t one.lasts other.lasts;
}

-- what it gave doesn't count, nor of which kind its values are
pub counts-as : {S T : Type 0} (setup : Setup) (a b : DeskState) (r s : RackState) (value : S) (other : T) → Counts setup a b (Ok value) r s → Counts setup a b (Ok other) r s
counts-as setup a b r s value other counts = record { works = counts.works; lasts = counts.lasts }

pub counts-stop : {S T : Type 0} (setup : Setup) (a b : DeskState) (r s : RackState) (stop : Stop) → Counts {T = S} setup a b (Err stop) r s → Counts {T = T} setup a b (Err stop) r s
counts-stop setup a b r s stop counts = record { works = counts.works; lasts = counts.lasts }

-- reading files behind a step that didn't stop
reading-works : (name : List ℕ) (a b : DeskState) (stop : Stop) → IsOfReading stop → OnlyReads a b (stops_reading stop) → WorksOn name a b (stops_reading stop) (stops_writing stop)
reading-works name a b ReadFault of reads = works-reads name a b _ reads
reading-works name a b WriteFault of reads = absurd of
reading-works name a b OutOfMemory of reads = works-reads name a b _ reads

pub counts-read :
    {S T : Type 0} (setup : Setup) (a b c : DeskState) (r s : RackState) (value : S) (given : T) (failed : Bool) → failed ≡ false
    → Counts setup a b (Ok value) r s → OnlyReads b c failed → Counts setup a c (Ok given) r s
counts-read setup a b c r s value given failed not_ one reads = record {
  works = works-then setup.image.now a b c false false one.works (works-reads setup.image.now b c false (subst (λ f. OnlyReads b c f) not_ reads));
  lasts = one.lasts;
}

pub counts-fails :
    {S T : Type 0} (setup : Setup) (a b c : DeskState) (r s : RackState) (value : S) (stop : Stop) → IsOfReading stop
    → Counts setup a b (Ok value) r s → OnlyReads b c (is_read_stop {T = T} (Err stop)) → Counts {T = T} setup a c (Err stop) r s
counts-fails setup a b c r s value stop of one reads = record {
  works = works-then setup.image.now a b c _ _ one.works (reading-works setup.image.now b c stop of reads);
  lasts = one.lasts;
}
