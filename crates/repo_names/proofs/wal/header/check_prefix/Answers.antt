use Rattle.std.proofs.Common.{rules, refl, ◌≤◌, ℕ, length, arith, sym, ◌∙◌, subst}
use Rattle.base_model.specs.ManifestText.{IsSegSize}
use Rattle.repo_names.proofs.Prefixes.{header_same, number_same}
use Rattle.repo_names.proofs.wal.header.check_prefix.Goals as goal

pub returns-in_default-clause-refused : goal.returns-in_default-clause-refused
returns-in_default-clause-refused c bytes begins =
    let h = header_same c.args.prefix.now bytes c.args.count c.requires.long c.requires.within begins c.page_info-info.result c.u32_at-known.result c.page_info-info.ensures c.u32_at-known.ensures (omega arith) c.if-info-eq0.false in
    (h.0, h.1, sym begins.whole, λ has. c.if-whole-count.false (c.from-whole.ensures ∙ h.1 ∙ has.1 ∙ begins.whole))

pub returns-in_default-2-clause-refused : goal.returns-in_default-2-clause-refused
returns-in_default-2-clause-refused c bytes begins =
    let h = header_same c.args.prefix.now bytes c.args.count c.requires.long c.requires.within begins c.page_info-info.result c.u32_at-known.result c.page_info-info.ensures c.u32_at-known.ensures (omega arith) c.if-info-eq0.false in
    (h.0, h.1, sym begins.whole, λ has. c.in_default.ensures.none (subst IsSegSize (sym (c.from-whole.ensures ∙ h.1)) has.0))

pub returns-then-found-system-clause-refused : goal.returns-then-found-system-clause-refused
returns-then-found-system-clause-refused c bytes begins =
    let h = header_same c.args.prefix.now bytes c.args.count c.requires.long c.requires.within begins c.page_info-info.result c.u32_at-known.result c.page_info-info.ensures c.u32_at-known.ensures (omega arith) c.if-info-eq0.false in
    let known = c.from-whole.ensures ∙ h.1 in (
      h.0,
      (subst IsSegSize known c.in-Some.ensures.value.1, sym known ∙ c.if-whole-count.true ∙ sym begins.whole),
      refl,
      c.u64_at-found.ensures ∙ sym (number_same c.args.prefix.now bytes c.args.count begins 24 8 (omega (arith, c.requires.long))),
      c.if-found-system.true,
    )

pub returns-clause-valid : goal.returns-clause-valid
returns-clause-valid c bytes begins =
    let h = header_same c.args.prefix.now bytes c.args.count c.requires.long c.requires.within begins c.page_info-info.result c.u32_at-known.result c.page_info-info.ensures c.u32_at-known.ensures (omega arith) c.if-info-eq0.false in
    let known = c.from-whole.ensures ∙ h.1 in
    record {
      long = h.0;
      whole = (subst IsSegSize known c.in-Some.ensures.value.1, sym known ∙ c.if-whole-count.true ∙ sym begins.whole);
      known = c.in-Some.ensures.value.0 ∙ known;
      same = number_same c.args.prefix.now bytes c.args.count begins 24 8 (omega (arith, c.requires.long)) ∙ sym c.u64_at-found.ensures ∙ c.if-found-system.false;
    }
