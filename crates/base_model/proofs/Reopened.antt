-- After a crash.
use Rattle.std.proofs.Common.{◌≡◌, ⊎_elim, ℕ, ◌≤◌, List, [], Option, Some, None, refl, sym, Bool, true, false, inl, inr, ap, ◌∙◌}
use Rattle.base_devices.specs.Content.{Name, Value, Content}
use Rattle.base_devices.specs.Moments.{View, IsImage, is_unsynced, MayKeep}
use Rattle.base_devices.specs.Crash.{Leaves}
use Rattle.base_model.specs.Text.{Text}
use Rattle.base_model.specs.Repository.{Repository}
use Rattle.base_model.specs.Log.{Done, KeepsRepository, RepresentsAfter}
use Rattle.base_model.specs.Steady.{LeavesOnly}
use Rattle.base_model.proofs.Frame.{represents_same}

-- a disk that was opened anew on what a crash left
pub record IsReopened (f : Content) (v : View) : Type 0 where
  pub now : v.now ≡ Some f
  pub kept : (n : Name) (x : Value) → MayKeep v n x → x ≡ f n
  pub synced : (n : Name) → is_unsynced v n ≡ false

pub reopened : (stanza : Text) (q : Repository) (log : List Done) (a b v : View) (t : ℕ) (f : Content) → LeavesOnly (RepresentsAfter stanza q log) a b → a.moment ≤ t → t ≤ b.moment → IsImage b t f →
    IsReopened f v → KeepsRepository stanza q log v
reopened stanza q log a b v t f between lo hi image open_ = record {
  fixed = λ n h. open_.synced n;
  places = λ g leaves n h. open_.synced n;
  represents = λ g leaves. record { repository = s.repository; reached = s.reached; sound = s.sound; represents = represents_same stanza f g (record { fixed = λ n h. same g leaves n; places = λ n h. same g leaves n }) s.repository s.represents };
}
  where
    s : RepresentsAfter stanza q log f
    s = between t f lo hi (inr image)

    same : (g : Content) → Leaves v v.moment g → (n : Name) → g n ≡ f n
    same g leaves n = ⊎_elim
        (λ (e : v.now ≡ Some g). let u : ◌≡◌ {A = Option Content} (Some f) (Some g) = sym open_.now ∙ e in let w : f ≡ g = cc in sym (ap (λ (h : Content). h n) w))
        (λ (i : IsImage v v.moment g). ⊎_elim (λ k. open_.kept n (g n) k) (λ l. let u : ◌≡◌ {A = Bool} false true = sym (open_.synced n) ∙ l.0 in cc) (i n)) leaves

-- a new disk, with nothing on it
pub empty_keeps : (stanza : Text) (v : View) → IsReopened (λ _. None) v → KeepsRepository stanza None [] v
empty_keeps stanza v open_ = record {
  fixed = λ n h. open_.synced n;
  places = λ g leaves n h. open_.synced n;
  represents = λ g leaves. record {
    repository = None;
    reached = refl;
    sound = tt;
    represents = record {
      archive_pair = (none g leaves _, none g leaves _);
      backup_pair = inl (none g leaves _, none g leaves _);
      archived = λ n file. none g leaves n;
    };
  };
}
  where
    none : (g : Content) → Leaves v v.moment g → (n : Name) → g n ≡ None
    none g leaves n = ⊎_elim
        (λ (e : v.now ≡ Some g). let u : ◌≡◌ {A = Option Content} (Some (λ _. None)) (Some g) = sym open_.now ∙ e in let w : ◌≡◌ {A = Content} (λ _. None) g = cc in sym (ap (λ (h : Content). h n) w))
        (λ (i : IsImage v v.moment g). ⊎_elim (λ k. open_.kept n (g n) k) (λ l. let u : ◌≡◌ {A = Bool} false true = sym (open_.synced n) ∙ l.0 in cc) (i n)) leaves
