use Rattle.records.proofs.Splits as splits
use Rattle.records.proofs.split_exactly.Goals as goal

pub returns : goal.returns
returns c = splits.split_exactly
