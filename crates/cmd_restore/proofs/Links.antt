-- The links that are left when the workers were started, and those that are used.
use Rattle.std.proofs.Common.{◌≡◌, ℕ, zero, suc, ◌<◌, ◌^◌, List, [], ◌∷◌, length, length-take, map, take, Option, Some, string_bytes, slice_get, refl, sym, ap, ◌∙◌, arith}
use Rattle.std.proofs.lemmas.List.{take-map, length-map}
use Rattle.std.specs.Prelude.{IfSome}
use Rattle.base_devices.specs.Cause.{Rises}
use Rattle.base_devices.specs.Links.{LinkState}
use Rattle.base_devices.specs.DataFolder.{Nodes}
use Rattle.base_model.specs.Text.{Text}
use Rattle.base_model.specs.Values.{Manifest}
use Rattle.worker_pool.specs.declared.dispatch.fault.Lost.{Lost}
use Rattle.worker_pool.specs.Run.{AllLost, IsReady, Left, begun}
use Rattle.restore_make.specs.declared.fault.FillFault.{FillFault}
use Rattle.restore_make.specs.declared.fault.FillFault.TheVariants as fills
use Rattle.restore_make.specs.Faults.{FillFails, AreLost as AllGone, IsUnread}
use Rattle.restore_make.specs.Options.{Options}
use Rattle.restore_make.specs.Finished.{IsFinished}
use Rattle.restore_make.proofs.Earlier.{finished_before}
use Rattle.restore_make.proofs.Failing.{fails_before}
use Rattle.restore_make.proofs.Filled.{all_gone}
use Rattle.worker_pool.proofs.Links.{left_is}
use Rattle.cmd_types.specs.declared.stages.object.Object.TheVariants.{TheDataFolder}
use Rattle.cmd_types.specs.Halts.{HaltCause, Only}
use Rattle.cmd_restore.specs.Filling.{of_fill, AreLost, CannotRead, FillCause}

-- ---- the first links

take_get : {X : Type 0} (n : ℕ) (xs : List X) (i : ℕ) (x : X) → slice_get (take n xs) i ≡ Some x → slice_get xs i ≡ Some x
take_get zero xs i x e = cc
take_get (suc n) [] i x e = e
take_get (suc n) (y ∷ ys) zero x e = e
take_get (suc n) (y ∷ ys) (suc i) x e = take_get n ys i x e

module _ {A : Type 0} (of : A → LinkState) (n : ℕ) (links now : List A) (are : now ≡ take n links) where
  pub first_links : map of now ≡ take n (map of links)
  first_links = ap (map of) are ∙ sym (take-map of n links)

  -- what holds of all holds of them
  pub each_first : (P : LinkState → Type 0) → ((i : ℕ) (s : LinkState) → slice_get (map of links) i ≡ Some s → P s) → (i : ℕ) (s : LinkState) → slice_get (map of now) i ≡ Some s → P s
  each_first P each i s is = each i s (take_get n (map of links) i s (ap (λ (l : List LinkState). slice_get l i) (sym first_links) ∙ is))

  pub few_first : (most : ℕ) → length links < most → length (take n (map of links)) < most
  few_first most few = omega (arith, length-take n (map of links), length-map links of, few)

-- links that are left are ready
pub left_ready : (used now : List LinkState) (mid : List Lost) → Left [] used [] mid now → (i : ℕ) (s : LinkState) → slice_get now i ≡ Some s → IsReady s
left_ready used now mid left i s is = ((left_is [] used [] mid now left).each i s is).ready

-- ---- the links that were lost

-- this many entries as links
lost_count : (used : List LinkState) (after : List Lost) (lost : ℕ) → AllGone used [] after → (length after < 2 ^ 32 → lost ≡ length after) → length used < 2 ^ 32 → AreLost used lost
lost_count used after lost gone count few =
    let same : length after ≡ length gone.entries = ap length gone.is in
    record { count = count (omega (arith, few, same, gone.count)) ∙ same ∙ gone.count; unsteady = gone.unsteady }

-- none of the links could be given the folders
pub start_lost : (used : List LinkState) (after : List Lost) (lost : ℕ) → AllLost [] (begun used []) after → (length after < 2 ^ 32 → lost ≡ length after) → length used < 2 ^ 32 → AreLost used lost
start_lost used after lost all = lost_count used after lost (all_gone [] used [] after all)

-- the tree has what the used links read
pub finished_used : (stanza : Text) (used now : List LinkState) (mid : List Lost) (o : Options) (m : Manifest) (old new : Option Nodes) → Left [] used [] mid now → IfSome new (IsFinished stanza now o m old) → IfSome new (IsFinished stanza used o m old)
finished_used stanza used now mid o m old new left done = finished_before stanza used now [] mid (left_is [] used [] mid now left) o m old new done

-- ---- why files aren't put into the folder

cannot : (stanza : Text) (m : Manifest) (used left : List LinkState) (path : Text) → IsUnread stanza m.label used left m.files path → CannotRead stanza m used path
cannot stanza m used left path x = record {
  entry = x.entry;
  listed = x.listed;
  path_is = x.path_is;
  link = x.link;
  from = x.from;
  from_is = x.from_is;
  unread = x.unread;
}

module _ (stanza : Text) (m : Manifest) (used now left : List LinkState) (mid after : List Lost) (few : length used < 2 ^ 32) (was : Left [] used [] mid now) (lost old new : ℕ) (count : length after < 2 ^ 32 → lost ≡ length after) where
  by_used : (e : FillFault) → FillFails e stanza m.label m.files used left [] after old new → HaltCause (FillCause stanza m used) (Only TheDataFolder (Rises old new)) (of_fill lost e)
  by_used (fills.FileDamaged path known found) x = x
  by_used fills.WorkersLost x = lost_count used after lost x count few
  by_used (fills.Unread path) x = cannot stanza m used left (string_bytes path) x
  by_used fills.DataFolder x = (refl, x)
  by_used fills.NoMemory x = tt

  pub fill_cause : (e : FillFault) → FillFails e stanza m.label m.files now left mid after old new → HaltCause (FillCause stanza m used) (Only TheDataFolder (Rises old new)) (of_fill lost e)
  fill_cause e x = by_used e (fails_before stanza m.label m.files used now left [] mid after old new e (left_is [] used [] mid now was) x)
