-- What a call that puts a report or a line leaves of its sink.
use Rattle.std.specs.Prelude.{ℕ, List, [], Bool, true, false, Result, Ok, Err}
use Rattle.rs01_outside.specs.SinkState.{Puts, SinkState}
use Rattle.rs01_report.specs.declared.puts.PutRefusal.{PutRefusal}
use Rattle.rs01_report.specs.declared.puts.PutRefusal.TheVariants.{SinkFault, OutOfMemory}

-- whether the sink failed
abbrev pub is_sink_fault : Result Unit PutRefusal → Bool
is_sink_fault (Ok u) = false
is_sink_fault (Err SinkFault) = true
is_sink_fault (Err OutOfMemory) = false

-- what was to be put: all of it, and nothing where memory ran out first
abbrev pub put_of : Result Unit PutRefusal → List ℕ → List ℕ
put_of (Ok u) bytes = bytes
put_of (Err SinkFault) bytes = bytes
put_of (Err OutOfMemory) bytes = []

-- these bytes were put, or a prefix where the sink failed, or nothing where memory ran out
abbrev pub PutsText : SinkState → SinkState → List ℕ → Result Unit PutRefusal → Type 0
PutsText old new bytes result = Puts old new (put_of result bytes) (is_sink_fault result)
