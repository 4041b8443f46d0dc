-- Reading all windows of a medium.
use Rattle.std.specs.Prelude.{ℕ, IfErr, OnOk, Result}
use Rattle.rs01_outside.specs.DeskState.{DeskState}
use Rattle.rs01_rack.specs.Rack.{RackState}
use Rattle.rs01_workers.specs.declared.results.WindowStop.{WindowStop}
use Rattle.rs01_workers.specs.declared.results.WindowStop.TheVariants.{OutOfMemory, Stopped}
use Rattle.rs01_turns.specs.Moments.{Moment}
use Rattle.rs01_reader.specs.Courses.{CourseSeen}
use Rattle.rs01_reader.specs.Settled.{moment}
use Rattle.rs01_reader.specs.declared.setup.Setup.{Setup}
use Rattle.rs01_reader.specs.declared.stop.Stop.{Stop}
use Rattle.rs01_adaptive.specs.Sights.{Along, IsFinished, IsQuiet, StoppedBy, sight_of}
use Rattle.rs01_adaptive.specs.declared.noting.Noted.{Noted}

-- how it was stopped: want of memory changes no count
abbrev pub StopsBy : Moment → WindowStop Stop → Type 0
StopsBy m (Stopped stop) = StoppedBy m stop
StopsBy m OutOfMemory = IsQuiet m

-- how reading all windows ends, from a moment whose answers were all taken: the reading went on, and once it is done all
-- answers were taken
pub record ReadsWindows (setup : Setup) (old new : CourseSeen) (noted noted' : Noted) (desk desk' : DeskState) (result : Result Unit (WindowStop Stop)) (rack rack' : RackState) : Type 0 where
  pub window : ℕ
  pub along : Along (sight_of setup old rack desk noted 0) (sight_of setup new rack' desk' noted' window)
  pub finished : OnOk result (IsFinished (sight_of setup new rack' desk' noted' window))
  pub stopped : IfErr result (StopsBy (moment setup new rack' desk'))
