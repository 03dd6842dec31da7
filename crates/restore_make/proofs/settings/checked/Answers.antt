use Rattle.std.proofs.Common.{refl, ◌≡◌, ◌∙◌, ◌++◌, ap, sym, subst, Some, Bool, true, false}
use Rattle.worker_protocol.specs.declared.sinks.ItemEnd.{ItemEnd}
use Rattle.base_model.specs.Values.{file_entry_of}
use Rattle.worker_pool.specs.Digests.{IsWhole}
use Rattle.restore_make.proofs.HeldRead.{first_rest}
use Rattle.worker_pool.proofs.Digests.{whole_of, equal_of}
use Rattle.restore_make.proofs.settings.checked.Goals as goal

pub returns-then-is_equal-clause-right : goal.returns-then-is_equal-clause-right
returns-then-is_equal-clause-right c =
    let e = file_entry_of c.args.file.now in
    let first = c.first-item.result in
    let rest = first_rest c.args.ended.now first c.in-len1-up.len_at_least c.first-item.is in
    (first, rest.0, rest.1, whole_of e (Some first.how) (sym c.is_equal.ensures ∙ c.if-is_equal.true), c.in_ok-extend_from_slice.ensures.items ∙ ap (λ l. l ++ c.deref.result.now) c.new-bytes.ensures.items ∙ c.deref.ensures.value)

pub returns-in_ok-clone-in-Whole-clause-wrong : goal.returns-in_ok-clone-in-Whole-clause-wrong
returns-in_ok-clone-in-Whole-clause-wrong c =
    let e = file_entry_of c.args.file.now in
    let first = c.first-item.result in
    let rest = first_rest c.args.ended.now first c.in-len1-up.len_at_least c.first-item.is in
    record {
      first = first;
      rest = rest.0;
      is = rest.1;
      n = c.in-Whole.length;
      whole = subst (λ (h : ItemEnd). IsWhole (Some h) c.in-Whole.length c.in-Whole.sum.0) (sym c.in-Whole.is) (refl, refl);
      wrong = λ x. let t : ◌≡◌ {A = Bool} true false = sym (equal_of e (Some first.how) (subst (λ (h : ItemEnd). IsWhole (Some h) e.size e.sum) (sym c.in-Whole.is) x)) ∙ sym c.is_equal.ensures ∙ c.if-is_equal.false in cc;
      path_is = c.in_ok-clone-in-Whole.ensures.cases;
      known_fact_is = refl;
    }
