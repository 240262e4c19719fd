use Rattle.rows.proofs.Readings.{row_of}
use Rattle.rows.proofs.slices.Rows.feature_row.Goals as goal

pub returns : goal.returns
returns c = row_of _ _ c.args.self.now.features.now c.args.at c.row_at.result c.row_at.ensures
