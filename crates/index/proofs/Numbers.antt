-- The number of an index's error, as the call `number` gives it. Assumes nothing.
use Rattle.std.specs.Prelude.{◌≡◌, refl}
use Rattle.faults.specs.Faults.{error_number}
use Rattle.faults.specs.declared.error.ReadError.{ReadError}
use Rattle.records.specs.Faults.{ground_number, IndexFault}
use Rattle.index.specs.Errors.{index_error_number}

pub numbered : (e : ReadError IndexFault) → error_number (λ f. ground_number f.ground) e ≡ index_error_number e
numbered e = refl
