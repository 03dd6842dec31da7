use Rattle.std.proofs.Common.{◌≡◌, ◌∙◌, ◌++◌, codes, subst, sym, option_map, ap, Some}
use Rattle.base_devices.specs.Content.{Name, Content, SameBut, at}
use Rattle.base_devices.specs.Moments.{GrowsBy}
use Rattle.backup_sink.specs.Relation.{touches_one}
use Rattle.backup_sink.specs.Sealed.{IsSealedAt}
use Rattle.backup_make.specs.Draft.{is_own_of, label_name}
use Rattle.backup_make.proofs.LabelFile.{named, no_slash_in, label_own}
use Rattle.backup_make.proofs.backup_close.store_label.Goals as goal

pub store_file-requires : goal.store_file-requires
store_file-requires g c = (codes "backup_label", c.deref-2.ensures ∙ c.in_ok-name.ensures.ok ∙ ap (λ x. x ++ codes "/backup_label") (sym c.deref.ensures), no_slash_in)

pub returns-in_err-store_file-clause-others : goal.returns-in_err-store_file-clause-others
returns-in_err-store_file-clause-others g c =
    let name = named c.args.draft.now _ _ _ c.deref-2.result.now c.in_ok-folder.ensures c.in_ok-folder-2.ensures.ok c.in_ok-name.ensures.ok c.deref-2.ensures in
    subst (λ (n : Name). SameBut n (g.D.Disk.state c.args.d.now).view.now (g.D.Disk.state c.store_file.new.d).view.now) name c.store_file.ensures.others

pub returns-in_err-store_file-clause-time : goal.returns-in_err-store_file-clause-time
returns-in_err-store_file-clause-time g c =
    let name = named c.args.draft.now _ _ _ c.deref-2.result.now c.in_ok-folder.ensures c.in_ok-folder-2.ensures.ok c.in_ok-name.ensures.ok c.deref-2.ensures in
    subst (λ (m : Name). GrowsBy (λ n _. n ≡ m) (λ n. n ≡ m) (g.D.Disk.state c.args.d.now).view (g.D.Disk.state c.store_file.new.d).view) name c.store_file.ensures.works.time

pub returns-in_err-store_file-clause-touches : goal.returns-in_err-store_file-clause-touches
returns-in_err-store_file-clause-touches g c =
    touches_one (is_own_of c.args.draft.now) (label_name c.args.draft.now) _ _ (label_own c.args.draft.now) (returns-in_err-store_file-clause-others g c) (returns-in_err-store_file-clause-time g c)

pub returns-clause-others : goal.returns-clause-others
returns-clause-others g c =
    let name = named c.args.draft.now _ _ _ c.deref-2.result.now c.in_ok-folder.ensures c.in_ok-folder-2.ensures.ok c.in_ok-name.ensures.ok c.deref-2.ensures in
    subst (λ (n : Name). SameBut n (g.D.Disk.state c.args.d.now).view.now (g.D.Disk.state c.store_file.new.d).view.now) name c.store_file.ensures.others

pub returns-clause-time : goal.returns-clause-time
returns-clause-time g c =
    let name = named c.args.draft.now _ _ _ c.deref-2.result.now c.in_ok-folder.ensures c.in_ok-folder-2.ensures.ok c.in_ok-name.ensures.ok c.deref-2.ensures in
    subst (λ (m : Name). GrowsBy (λ n _. n ≡ m) (λ n. n ≡ m) (g.D.Disk.state c.args.d.now).view (g.D.Disk.state c.store_file.new.d).view) name c.store_file.ensures.works.time

pub returns-clause-touches : goal.returns-clause-touches
returns-clause-touches g c =
    touches_one (is_own_of c.args.draft.now) (label_name c.args.draft.now) _ _ (label_own c.args.draft.now) (returns-clause-others g c) (returns-clause-time g c)

pub returns-clause-value : goal.returns-clause-value
returns-clause-value g c =
    let name = named c.args.draft.now _ _ _ c.deref-2.result.now c.in_ok-folder.ensures c.in_ok-folder-2.ensures.ok c.in_ok-name.ensures.ok c.deref-2.ensures in
    let old = (g.D.Disk.state c.args.d.now).view.now in
    subst (λ (n : Name). at n (g.D.Disk.state c.store_file.new.d).view.now ≡ option_map (λ (x : Content). Some c.args.text.now) old) name
    (c.in_ok-store_file.ensures.value ∙ ap (λ (t : Name). option_map (λ (x : Content). Some t) old) c.as_bytes.ensures.value)

pub returns-clause-sealed : goal.returns-clause-sealed
returns-clause-sealed g c =
    let name = named c.args.draft.now _ _ _ c.deref-2.result.now c.in_ok-folder.ensures c.in_ok-folder-2.ensures.ok c.in_ok-name.ensures.ok c.deref-2.ensures in
    subst (λ (n : Name). IsSealedAt n (g.D.Disk.state c.store_file.new.d).view) name c.in_ok-store_file.ensures.sealed
