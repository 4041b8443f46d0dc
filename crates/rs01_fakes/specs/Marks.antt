-- Which calls of an object in memory are marked to fail. Calls are numbered from 0.
use Rattle.std.specs.Prelude.{ℕ, ◌+◌, ◌-◌, ◌^◌, ◌==◌, ◌||◌, min, Bool, true, false, Option, Some, None}
use Rattle.rs01_fakes.specs.declared.marks.Mark.{Mark}
use Rattle.rs01_fakes.specs.declared.marks.Marks.{Marks}

-- one more, up to the last value of a u64
abbrev pub one_more : ℕ → ℕ
one_more count = min (count + 1) (2 ^ 64 - 1)

-- a count of faults after a call, which adds one where it failed
abbrev pub faults_after : ℕ → Bool → ℕ
faults_after count false = count
faults_after count true = one_more count

-- whether a mark is at this number
abbrev pub is_at : Option ℕ → ℕ → Bool
is_at None number = false
is_at (Some mark) number = mark == number

-- no call was made, and none is marked
abbrev pub no_mark : Mark
no_mark = record { calls = 0; failing = None }

-- the call with this number is to fail, and no other one by this mark
abbrev pub mark_at : Mark → ℕ → Mark
mark_at mark call = record mark { failing = Some call }

-- whether the next call is marked
abbrev pub is_marked : Mark → Bool
is_marked mark = is_at mark.failing mark.calls

-- the mark after a call
abbrev pub after : Mark → Mark
after mark = record mark { calls = one_more mark.calls }

-- nothing is marked, and no call was made
abbrev pub unmarked : Marks
unmarked = record { calls = no_mark; writes = no_mark; kept = None }

-- whether the next call is marked, where it is no write
abbrev pub call_is_marked : Marks → Bool
call_is_marked marks = is_marked marks.calls

-- whether the next call is marked, where it is a write
abbrev pub write_is_marked : Marks → Bool
write_is_marked marks = is_marked marks.calls || is_marked marks.writes

-- the marks after a call that is no write
abbrev pub after_call : Marks → Marks
after_call marks = record marks { calls = after marks.calls }

-- the marks after a write
abbrev pub after_write : Marks → Marks
after_write marks = record marks { calls = after marks.calls; writes = after marks.writes }
