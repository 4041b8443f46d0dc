mod Elsewhere
mod ScriptLemmas
