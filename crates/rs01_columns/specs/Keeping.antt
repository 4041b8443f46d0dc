-- What a program was tried for on the unit words.
use Rattle.rs01_columns.specs.Certificate.{Encodes, Evaluates}
use Rattle.rs01_columns.specs.declared.kept.KeptProgram.{KeptProgram}

-- it encodes
abbrev pub IsEncoder : KeptProgram → Type 0
IsEncoder kept = Encodes kept.program.steps.items kept.parity_count

-- it gives the values at the roots
abbrev pub IsEvaluator : KeptProgram → Type 0
IsEvaluator kept = Evaluates kept.program.steps.items kept.parity_count
