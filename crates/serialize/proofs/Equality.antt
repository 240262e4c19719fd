-- The test for equality of links holds of equal links and of no others.
use Rattle.std.proofs.Common.{◌≡◌, ℕ, List, Bool, Decides, sym, ap, subst, arith}
use lib.Pointwise.{pointwise}
use Rattle.std.proofs.lemmas.Slice.Eq.{slice_eq-Decides}
use Rattle.serialize.specs.declared.tables.Width.{Width}
use Rattle.serialize.specs.declared.tables.Link.{Link}
use Rattle.serialize.specs.contracts.tables.WidthPartialEq.TheImpl as width_eq
use Rattle.serialize.specs.contracts.tables.LinkPartialEq.TheImpl as link_eq
use Rattle.serialize.proofs.Keeps.{object-same}
use Rattle.serialize.specs.Objects.{Object, same_width, same_link}

pub derived_width : (v w : Width) → (width_eq.ghosts).eq v w ≡ same_width v w
derived_width v w = grind arith

pub derived_link : (l m : Link) → (link_eq.ghosts).eq l m ≡ same_link l m
derived_link l m = grind arith

pub same_width-decides : (v w : Width) → Decides (same_width v w) (v ≡ w)
same_width-decides v w = grind arith

pub same_link-decides : (l m : Link) → Decides (same_link l m) (l ≡ m)
same_link-decides l m = grind arith

pub link-decides : (l m : Link) → Decides ((link_eq.ghosts).eq l m) (l ≡ m)
link-decides l m = subst (λ b. Decides b (l ≡ m)) (sym (derived_link l m)) (same_link-decides l m)

-- what `==` says of two runs of links
pub links-decide : (a b : List Link) (r : Bool) → r ≡ pointwise (link_eq.ghosts).eq a b → Decides r (a ≡ b)
links-decide a b r = slice_eq-Decides link-decides a b r

-- an object is one of these bytes and links where both are
pub object-decides : (o : Object) (bs : List ℕ) (ls : List Link) (p : o.bytes ≡ bs) (r : Bool) → Decides r (o.links ≡ ls) → Decides r (o ≡ record { bytes = bs; links = ls })
object-decides o bs ls p r d = (λ t. object-same _ _ _ _ p (d.0 t), λ e. d.1 (ap (λ (x : Object). x.links) e))
