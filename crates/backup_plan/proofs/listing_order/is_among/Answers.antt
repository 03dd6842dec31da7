use Rattle.std.proofs.Common.{rules, nat_cmp, subst, sym, string_bytes, map}
use Rattle.std.specs.Prelude.{Bool, ◌↔◌, IsTrue}
use Rattle.std.specs.Cmp.Lexicographic.{slice_cmp}
use Rattle.std.proofs.lemmas.Fn.{always_returns_same}
use Rattle.base_model.specs.Text.{In}
use Rattle.backup_plan.proofs.Among.{known}
use Rattle.backup_plan.proofs.listing_order.is_among.Goals as goal

pub returns : goal.returns
returns c =
    let key = c.args.path.now in
    let xs = c.args.folders.now in
    let facts = c.binary_search_by.ensures.position (λ x. slice_cmp nat_cmp (string_bytes x) key) (always_returns_same _ _ _ (λ a r g called. (search rules, search rules))) in
    subst (λ (b : Bool). IsTrue b ↔ In key (map string_bytes xs)) (sym c.is_ok.ensures.value) (known string_bytes key xs c.requires c.binary_search_by.result facts c.binary_search_by.ensures.bound)
