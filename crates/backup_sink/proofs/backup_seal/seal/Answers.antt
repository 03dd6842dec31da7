use Rattle.std.proofs.Common.{◌≡◌, true, false, sym, ◌∙◌, subst}
use Rattle.std.specs.Prelude.{IsTrue}
use Rattle.std.proofs.lemmas.Result.{on_ok_weaker}
use Rattle.base_devices.specs.Content.{Name, HasBytes, Holds, is_below}
use Rattle.base_devices.specs.Moments.{GrowsBy, is_unsynced}
use Rattle.backup_sink.proofs.Synced.{sealed}
use Rattle.backup_sink.proofs.backup_seal.seal.Goals as goal

pub returns-clause-sealed : goal.returns-clause-sealed
returns-clause-sealed g c =
    let state = g.D.Disk.state in
    let a = (state c.args.d.now).view in
    let b = (state c.sync_below.new.self).view in
    let e = (state c.sync_below-2.new.self).view in
    let files = c.deref.ensures ∙ c.in_ok-files.ensures.ok in
    let bundles = c.deref-2.ensures ∙ c.in_ok-bundles.ensures.ok in
    on_ok_weaker c.sync_directories.result (λ s. sealed c.args.folder.now a b e (state c.sync_directories.new.self).view c.sync_below.ensures.now c.sync_below-2.ensures.now c.sync_directories.ensures.looks.now
    (subst (λ (part : Name). (n : Name) → IsTrue (is_below part n) → HasBytes a.now n → is_unsynced b n ≡ false) files c.in_ok-sync_below.ensures.synced)
    (subst (λ (part : Name). GrowsBy (λ n x. IsTrue (is_below part n) × Holds b.now n x) (λ n. IsTrue (is_below part n)) b e) bundles c.sync_below-2.ensures.works.time)
    (subst (λ (part : Name). (n : Name) → IsTrue (is_below part n) → HasBytes b.now n → is_unsynced e n ≡ false) bundles c.in_ok-sync_below-2.ensures.synced)
    c.sync_directories.ensures.looks.time s) c.sync_directories.ensures.settled
