-- A task that refuses a layer once.
use Rattle.std.specs.Prelude.{ℕ}
use Rattle.rs01_fakes.specs.declared.once_refusing.OnceRefusing.{OnceRefusing}

-- the task that it works as
abbrev pub task_within : {T : Type 0} → OnceRefusing T → T
task_within task = task.inner

-- the layer that it refuses
abbrev pub refused_layer : {T : Type 0} → OnceRefusing T → ℕ
refused_layer task = task.layer
