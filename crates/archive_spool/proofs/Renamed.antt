-- Names that are renamed or removed, without a sync of their folder.
use Rattle.std.proofs.Common.{◌≡◌, inl, inr, [], ◌∷◌, Some, None, Option, ap₂, sym, ◌∙◌, subst}
use Rattle.std.specs.Prelude.{Result, option_map, string_bytes}
use Rattle.base_devices.specs.Content.{Name, Content, Changes, SameBut, put, moved}
use Rattle.base_devices.specs.Moments.{View, GrowsBy}
use Rattle.base_devices.specs.Crash.{IsTemporary, NowChanges, FirstOf}
use Rattle.base_devices.proofs.Steps.{goes_wide, same_changes}
use Rattle.base_disk.specs.Store.{ChangesOnly}
use Rattle.base_disk.proofs.Changes.{only_on}
use Rattle.base_disk.proofs.Replaced.{staged_now, published_now}
use Rattle.archive_spool.specs.declared.spool_query.MarkNames.{MarkNames}
use Rattle.archive_spool.specs.Asking.{IsNameOf}

-- a name that is removed
removed : {T E : Type 0} (r : Result T E) (name : Name) (these : Name → Type 0) (a b : View) → these name → GrowsBy (λ n v. (n ≡ name) × (v ≡ None)) (λ _. ⊥) a b → Changes r (put name None) a.now b.now → ChangesOnly these a b
removed r name these a b it goes change = record {
  now = λ n off. same_changes r name None a.now b.now change n (λ e. off (subst these (sym e) it));
  time = goes_wide (λ n v. (n ≡ name) × (v ≡ None)) (λ n _. these n) (λ _. ⊥) (λ n. these n × IsTemporary n) a b (λ n v x. subst these (sym x.0) it) (λ n x. absurd x) goes;
}

-- both of a file's marks are
pub removed_both : {T E U F : Type 0} (names : MarkNames) (x y : Name) → x ≡ string_bytes names.receipt → y ≡ string_bytes names.refusal → (r : Result T E) (s : Result U F) (a b c : View)
    → GrowsBy (λ n v. (n ≡ x) × (v ≡ None)) (λ _. ⊥) a b → Changes r (put x None) a.now b.now → GrowsBy (λ n v. (n ≡ y) × (v ≡ None)) (λ _. ⊥) b c → Changes s (put y None) b.now c.now → ChangesOnly (IsNameOf names) a c
removed_both names x y ex ey r s a b c t n u m = only_on (IsNameOf names) a b c (removed r x (IsNameOf names) a b (inl ex) t n) (removed s y (IsNameOf names) b c (inr ey) u m)

-- bytes that were staged, and then may have been renamed
module _ (temp name text : Name) (is_temp : IsTemporary temp) (lasting : ¬ IsTemporary name) where
  pub staged_part : (t : Name) → t ≡ temp → (old new : Option Content) → SameBut t old new → NowChanges (FirstOf ((name, text) ∷ [])) old new
  staged_part t e old new same = staged_now temp name text is_temp lasting old new (subst (λ (k : Name). SameBut k old new) e same)

  pub placed_part : {T E : Type 0} (r : Result T E) (old mid new : Option Content) (t s n b : Name) → t ≡ temp → s ≡ t → n ≡ name → b ≡ text → mid ≡ option_map (put t (Some b)) old → Changes r (moved s n) mid new
      → NowChanges (FirstOf ((name, text) ∷ [])) old new
  placed_part r old mid new t s n b et es en eb is change = published_now temp name text is_temp lasting r old mid new s (es ∙ et)
      (is ∙ ap₂ (λ (x y : Name). option_map (put x (Some y)) old) et eb) (subst (λ (k : Name). Changes r (moved s k) mid new) en change)
