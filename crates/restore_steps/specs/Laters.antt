-- What a keeper changes, one call after another.
use Rattle.std.proofs.Common.{ℕ, ◌≡◌, ◌≢◌, ◌<◌, ◌≤◌, ◌⊎◌, inl, inr, ⊎_elim, refl, sym, ap, ◌∙◌, subst, arith, List, map, Option, Some}
use Rattle.std.specs.Prelude.{IfSome}
use Rattle.std.proofs.Math.Nat.{le_refl, le_trans}
use Rattle.base_devices.specs.Content.{at}
use Rattle.base_devices.specs.Cause.{Rises}
use Rattle.base_devices.specs.States.{DataFolderState}
use Rattle.base_devices.specs.DataFolder.{Nodes, Held, folder}
use Rattle.base_model.specs.Text.{Text}
use Rattle.restore_steps.specs.declared.contents.files.Wanted.{Wanted}
use Rattle.restore_steps.specs.declared.contents.keeper.FileKeeper.{FileKeeper}
use Rattle.restore_steps.specs.Files.{wanted_of}
use Rattle.restore_steps.specs.Keeping.{IsNoneOf, HaveFolders, RoseWithin, Later}

-- what is no file's path is unchanged, so their folders are there
pub folders_stay : (ws : List Wanted) (u v : Option Nodes) → ((q : Text) → IsNoneOf ws q → at q v ≡ at q u)
    → HaveFolders ws u → HaveFolders ws v
folders_stay ws u v same have w i prefix last is plain =
    let x = have w i prefix last is plain in
    (x.0, subst (λ (o : Option (Option Held)). IfSome o (λ node. node ≡ Some folder)) (sym (same prefix x.0)) x.1)

-- a keeper is later than itself, and than one before
pub later_same : (k : FileKeeper) (u : DataFolderState) → Later k k u u
later_same k u = record {
  jobs = refl;
  wanted = refl;
  others = λ q none. refl;
  opened = refl;
  proper = λ placed. refl;
  later = le_refl u.faults;
  failed = λ some. inl some;
}

pub later_through : (a b c : FileKeeper) (u v w : DataFolderState) → Later a b u v → Later b c v w → Later a c u w
later_through a b c u v w p q = record {
  jobs = q.jobs ∙ p.jobs;
  wanted = q.wanted ∙ p.wanted;
  others = λ n none. q.others n (subst (λ (ws : List Wanted). IsNoneOf ws n) (sym p.wanted) none) ∙ p.others n none;
  opened = q.opened ∙ p.opened;
  proper = λ have.
      q.proper (subst (λ (ws : List Wanted). HaveFolders ws v.nodes) (sym p.wanted)
      (folders_stay (map wanted_of a.files.items) u.nodes v.nodes p.others have))
      ∙ p.proper have;
  later = le_trans p.later q.later;
  failed = λ some. ⊎_elim
      (λ was. ⊎_elim (λ x. inl x) (λ r. inr
      (record { before = r.before; after = r.after; from = r.from; rose = r.rose; to = le_trans r.to q.later }))
      (p.failed was))
      (λ r. inr (record {
        before = r.before;
        after = r.after;
        from = le_trans p.later r.from;
        rose = r.rose;
        to = r.to;
      }))
      (q.failed some);
}
