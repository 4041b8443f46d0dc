-- What is made of what the system answers of a name.
use Rattle.std.specs.Prelude.{◌≡◌, ◌≢◌, Option, None, Some, Result, Err, Ok}
use Rattle.std.specs.IoError.{error_kind}
use Rattle.std.specs.declared.io.Error.{Error}
use Rattle.std.specs.declared.io.ErrorKind.TheVariants.{NotFound}

-- an answer, with `None` in the place of the error that there is no such file
abbrev pub IsPresent : {T : Type 0} → Result T Error → Result (Option T) Error → Type 0
IsPresent (Ok value) result = result ≡ Ok (Some value)
IsPresent (Err error) result =
    (error_kind error ≡ NotFound → result ≡ Ok None) × (error_kind error ≢ NotFound → result ≡ Err error)
