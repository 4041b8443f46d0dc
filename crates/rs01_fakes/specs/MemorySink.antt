-- What a sink in memory holds.
use Rattle.std.specs.Prelude.{ℕ, ◌+◌, ◌≡◌, ◌<◌, ◌⊎◌, Bool, true, IsTrue, List, length, vec_capacity}
use Rattle.rs01_outside.specs.SinkState.{SinkState}
use Rattle.rs01_fakes.specs.Marks.{after, faults_after, is_marked}
use Rattle.rs01_fakes.specs.declared.marks.Mark.{Mark}
use Rattle.rs01_fakes.specs.declared.memory_sink.MemorySink.{MemorySink}

-- what it tells
abbrev pub sink_state : MemorySink → SinkState
sink_state sink = record { tells = true; taken = sink.bytes.items; faults = sink.faults }

-- the bytes that it took
abbrev pub taken_of : MemorySink → List ℕ
taken_of sink = sink.bytes.items

-- how many bytes it holds before it has to grow
abbrev pub room_of : MemorySink → ℕ
room_of sink = vec_capacity sink.bytes

-- which of its puts is marked to fail
abbrev pub puts_of : MemorySink → Mark
puts_of sink = sink.puts

-- a put counts itself, takes nothing and counts a fault where it failed, and fails where it is marked and else only where it
-- has to grow
pub record PutsOrNot (bytes : List ℕ) (old new : MemorySink) (failed : Bool) : Type 0 where
  pub none : IsTrue failed → taken_of new ≡ taken_of old
  pub faults : new.faults ≡ faults_after old.faults failed
  pub puts : puts_of new ≡ after (puts_of old)
  pub marked : IsTrue (is_marked (puts_of old)) → IsTrue failed
  pub full : IsTrue failed → IsTrue (is_marked (puts_of old)) ⊎ (room_of old < length (taken_of old) + length bytes)
