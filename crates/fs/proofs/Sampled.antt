-- The samples, by computation. Assumes nothing.
use Rattle.std.proofs.Common.{refl}
use Rattle.fs.specs.Samples.{Samples}

pub sampled : Samples
sampled = record {
  filed_clashes = refl;
  behind_steady = refl;
  behind_runs = refl;
  behind_needs = refl;
  behind_bill = refl;
  behind_no_room = λ n. refl;
  behind_no_allowance = refl;
  behind_starts = refl;
  looped_circle = refl;
  shared_steady = refl;
  shared_runs = refl;
  shared_runs_back = refl;
  cleared_clashes = refl;
  heard_clashes = refl;
  heard_steady = refl;
  heard_runs = refl;
  unmarked_unsteady = refl;
  unmarked_runs = refl;
  across_steady = refl;
  across_runs = refl;
}
