-- An image that is protected, and a damaged copy of it that is repaired.
use Rattle.std.specs.Prelude.{ℕ, ◌≡◌, List, false, Option, Some, IsOkAnd, codes, length}
use Rattle.rs01_outside.specs.Files.{Files}
use Rattle.rs01_ecchead.specs.EccFile.{ecc_file}
use Rattle.rs01_fix.specs.Answer.{fix_answer}

-- the image's error correction file stands beside what it makes of the damaged copy, and has this length
pub record IsRepaired (image damaged : List ℕ) (files : Files) (len : ℕ) : Type 0 where
  pub file : files (codes "disc.ecc") ≡ Some (ecc_file image 32)
  pub length_is : len ≡ length (ecc_file image 32)
  pub image_is : IsOkAnd (fix_answer (Some (ecc_file image 32)) (Some damaged) false)
      (λ repaired. files (codes "disc.iso") ≡ Some repaired.file)
