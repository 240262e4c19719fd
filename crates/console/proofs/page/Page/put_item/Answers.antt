use Rattle.std.proofs.Common.{◌≡◌, ◌++◌, ap, ◌∙◌, rules}
use Rattle.std.proofs.lemmas.List.{append_assoc}
use Rattle.console.proofs.Adding.{text-then, column-then}
use Rattle.console.specs.Pages.{written, column_after, comma, comma_column, gap, gap_column, item_text, item_column}
use Rattle.console.proofs.page.Page.put_item.Goals as goal
use Rattle.console.proofs.page.Page.put_item.Goals.{then-before-gt0+in_ok-put, else-before-gt0}

pub returns : goal.returns
returns c =
    let page = c.args.self.now in
    let item = c.args.item.now in
    let k = c.args.before in
    let n = comma_column page.column k in
    let now = c.if-before-gt0.self in
    let text_at : written now ≡ written page ++ comma k =
    elim c.if-before-gt0.branch [ then-before-gt0+in_ok-put w ↦ search rules | else-before-gt0 w ↦ search rules ]
    in
    let column-at : now.column ≡ n =
    elim c.if-before-gt0.branch [ then-before-gt0+in_ok-put w ↦ search rules | else-before-gt0 w ↦ search rules ]
    in
    let parted : written c.part.new.self ≡ written now ++ gap now.column item = search rules in
    let before : written c.part.new.self ≡ written page ++ (comma k ++ gap n item) =
    parted
    ∙ (ap (λ x. x ++ gap now.column item) text_at
    ∙ (append_assoc (written page) (comma k) (gap now.column item) ∙ ap (λ m. written page ++ (comma k ++ gap m item)) column-at))
    in
    let column-parted : c.part.new.self.column ≡ gap_column now.column item = search rules in
    let column-before : column_after c.part.new.self.column item ≡ item_column page.column k item =
    ap (λ m. column_after m item) (column-parted ∙ ap (λ m. gap_column m item) column-at)
    in
    record {
      text =
          text-then c.put-2.result (written page) (written c.part.new.self) (written c.put-2.new.self) (comma k ++ gap n item)
          item (item_text page.column k item) before (search rules) (append_assoc (comma k) (gap n item) item);
      column =
          column-then c.put-2.result c.put-2.new.self.column (column_after c.part.new.self.column item)
          (item_column page.column k item) (search rules) column-before;
    }
