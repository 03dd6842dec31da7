-- Two more names are synced.
use Rattle.std.proofs.Common.{Bool, true, false, ◌≡◌, refl, sym, subst, bytes_eq}
use Rattle.std.proofs.lemmas.Slice.Eq.{bytes_eq-Decides}
use Rattle.base_devices.specs.States.{DataFolderState, IsSyncedAt, AllSynced, StaySyncedButTwo}
use Rattle.base_model.specs.Text.{Text}
use Rattle.restore_make.proofs.Names.{other_path}

pub all_synced : (first second : Text) (old new : DataFolderState) → AllSynced old → StaySyncedButTwo first second old new → IsSyncedAt new first → IsSyncedAt new second → AllSynced new
all_synced first second old new all stay one two path = by (bytes_eq path first) refl (bytes_eq path second) refl
  where
    by : (a : Bool) → bytes_eq path first ≡ a → (b : Bool) → bytes_eq path second ≡ b → IsSyncedAt new path
    by true is b other = subst (λ (q : Text). IsSyncedAt new q) (sym ((bytes_eq-Decides path first).0 is)) one
    by false is true other = subst (λ (q : Text). IsSyncedAt new q) (sym ((bytes_eq-Decides path second).0 other)) two
    by false is false other = stay path (other_path path first is) (other_path path second other) (all path)
