use Rattle.std.proofs.Common.{◌∙◌, ap}
use Rattle.std.specs.List.{slice_get}
use Rattle.source.specs.Standings.{listed}
use Rattle.rows.proofs.Readings.{record_at}
use Rattle.rows.proofs.slices.Rows.record_row.Goals as goal

pub returns : goal.returns
returns c =
    record_at c.args.self.now c.in_ok-script.script c.args.at c.args.k c.range_at.result c.in_ok-script.ensures
    (c.range_at.ensures ∙ ap (λ r. slice_get (listed r) c.args.k) c.records.ensures)
