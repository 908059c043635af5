use Rattle.std.proofs.Common.{◌≡◌, true, ◌⊎◌, []}
use Rattle.records.specs.Lefts.{row_left}
use Rattle.records.specs.Rows.{row_from}
use Rattle.index.specs.Answers.{begins_well}
use Rattle.index.specs.Indexes.{index_of}
use Rattle.index.specs.Reading.{read_row}
use Rattle.index.proofs.index.Index.read.Given as goal

abbrev pub invariant-loop-record : goal.invariant-loop-record
invariant-loop-record l =
    (goal.iterator-loop-record).can_next l.record-iterator
    × (goal.iterator-loop-record).is_finite l.record-iterator
    × (read_row (index_of l.index) (row_left l.record-iterator) ≡ read_row [] (row_from l.bytes 0))
    × (((index_of l.index ≡ []) × (row_left l.record-iterator ≡ row_from l.bytes 0)) ⊎ (begins_well (row_from l.bytes 0) ≡ true))
