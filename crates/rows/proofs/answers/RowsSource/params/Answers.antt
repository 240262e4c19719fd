use Rattle.rows.proofs.Readings.{plain}
use Rattle.rows.proofs.answers.RowsSource.params.Goals as goal

pub returns : goal.returns
returns c = plain c.args.self.now c.args._at
