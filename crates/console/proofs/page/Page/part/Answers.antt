use Rattle.std.proofs.Common.{◌≡◌, false, ◌++◌, codes, rules}
use Rattle.console.proofs.Adding.{text-then, column-then}
use Rattle.console.specs.Pages.{written, column_after, fits, gap, gap_column}
use Rattle.console.proofs.page.Page.part.Goals as goal

pub returns-in_ok-end : goal.returns-in_ok-end
returns-in_ok-end c =
    let page = c.args.self.now in
    let item = c.args.item.now in
    let over : fits page.column item ≡ false = search rules in
    let text : codes "\n" ++ codes "          " ≡ gap page.column item = search rules in
    let column : column_after c.end.new.self.column (codes "          ") ≡ gap_column page.column item = search rules in
    let put = c.put-else-saturating_add-lt-WIDTH in
    record {
      text =
          text-then put.result (written page) (written c.end.new.self) (written put.new.self) (codes "\n") (codes "          ")
          (gap page.column item) (search rules) (search rules) text;
      column =
          column-then put.result put.new.self.column (column_after c.end.new.self.column (codes "          "))
          (gap_column page.column item) (search rules) column;
    }
