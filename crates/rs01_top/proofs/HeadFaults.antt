-- The faults of an absent file and of a header are faults of files.
use Rattle.std.proofs.Common.{◌≡◌, refl}
use Rattle.rs01_ecchead.specs.declared.head.HeadRefusal.{HeadRefusal}
use Rattle.rs01_ecchead.specs.declared.head.HeadRefusal.TheVariants.{Cookie, Method, Version, Sectors, Parity, LastBytes}
use Rattle.rs01_ecchead.specs.declared.opened.Which.{Which}
use Rattle.rs01_ecchead.specs.declared.opened.Which.TheVariants.{Ecc, Image}
use Rattle.rs01_report.specs.Faults.{status_of}
use Rattle.rs01_top.specs.Faults.{absent_fault, head_fault}

pub absent_is : (which : Which) → status_of (absent_fault which) ≡ 3
absent_is Ecc = refl
absent_is Image = refl

pub head_is : (why : HeadRefusal) → status_of (head_fault why) ≡ 3
head_is Cookie = refl
head_is Method = refl
head_is Version = refl
head_is Sectors = refl
head_is Parity = refl
head_is LastBytes = refl
