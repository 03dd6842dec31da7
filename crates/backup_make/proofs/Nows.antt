-- A backup that is stored and then listed: what the disk holds.
use Rattle.std.proofs.Common.{◌≡◌, ◌≢◌, ◌⊎◌, Bool, true, false, Option, Some, None, refl, sym, ◌∙◌, ap, subst, inl, inr, ⊎_elim}
use Rattle.std.specs.Prelude.{IsSome}
use Rattle.base_devices.specs.Content.{Name, Value, Content, Holds, at}
use Rattle.base_devices.specs.Crash.{IsTemporary, Alike, FirstOf, AllOf, NowChanges}
use Rattle.base_devices.specs.Moments.{View}
use Rattle.base_model.specs.Text.{Text}
use Rattle.base_model.specs.Names.{copy_of}
use Rattle.base_model.specs.Create.{member_writes}
use Rattle.backup_sink.specs.Relation.{Touches}
use Rattle.backup_sink.specs.Way.{IsBeside}
use Rattle.backup_sink.proofs.Made.{IsMade, first_other, first_main, all_other, all_main}

-- what it holds, where it is known
held : (o : Option Content) → IsSome o → (f : Content) × (o ≡ Some f)
held (Some f) h = (f, refl)
held None h = let both : ◌≡◌ {A = Bool} false true = h in cc

module _ (own : Name → Bool) (pair main : Name) (text info : Text) (pair_lasts : ¬ IsTemporary pair) (main_lasts : ¬ IsTemporary main) (pair_two : pair ≢ copy_of pair) (main_two : main ≢ copy_of main)
    (pair_out : own pair ≡ false) (copy_out : own (copy_of pair) ≡ false) (main_out : own main ≡ false) (main_copy_out : own (copy_of main) ≡ false)
    (apart : (pair ≢ main) × (pair ≢ copy_of main)) where
  own_apart : (n m : Name) → own n ≡ true → own m ≡ false → n ≢ m
  own_apart n m is out e = let u : ◌≡◌ {A = Bool} true false = sym is ∙ ap own e ∙ out in cc

  -- while the bytes are stored
  pub stored_now : (a b : View) → (IsSome a.now → IsSome b.now) → Touches own a b → NowChanges (IsBeside own pair) a.now b.now
  stored_now a b known touches = record {
    known = known;
    goes = λ f g is_f is_g. record {
      others = λ n out lasts off off_copy. let e : ◌≡◌ {A = Option Value} (Some (g n)) (Some (f n)) = ap (λ (o : Option Content). at n o) (sym is_g) ∙ touches.now n out ∙ ap (λ (o : Option Content). at n o) is_f in cc;
    };
  }

  module _ (a b c : Option Content) (beside : NowChanges (IsBeside own pair) a b) where
    -- while the manifest is saved
    pub saved_now : NowChanges (FirstOf (member_writes pair text)) b c → NowChanges (IsBeside own pair) a c
    saved_now saved = record {
      known = λ some. saved.known (beside.known some);
      goes = λ f h is_f is_h.
          let g = held b (beside.known (subst (λ (o : Option Content). IsSome o) (sym is_f) refl)) in
          let s = beside.goes f g.0 is_f g.1 in
          let w = saved.goes g.0 h g.1 is_h in
          record { others = λ n out lasts off off_copy. first_other pair text g.0 h w n lasts off off_copy ∙ s.others n out lasts off off_copy };
    }

    module _ (d : Option Content) (saved : NowChanges (AllOf (member_writes pair text)) b c) where
      abbrev Steps : (Content → Content → Type 0) → Content → Content → Type 0
      Steps List f k = (g h : Content) × (b ≡ Some g) × IsBeside own pair f g × AllOf (member_writes pair text) g h × List h k

      steps : (List : Content → Content → Type 0) → NowChanges List c d → (f k : Content) → a ≡ Some f → d ≡ Some k → Steps List f k
      steps List listed f k is_f is_k =
          let g = held b (beside.known (subst (λ (o : Option Content). IsSome o) (sym is_f) refl)) in
          let h = held c (saved.known (subst (λ (o : Option Content). IsSome o) (sym g.1) refl)) in
          (g.0, h.0, g.1, beside.goes f g.0 is_f g.1, saved.goes g.0 h.0 g.1 h.1, listed.goes h.0 k h.1 is_k)

      -- at a name that neither saving the list nor saving the manifest changes
      made : (f k : Content) → (s : Steps (λ h k. (n : Name) → ¬ IsTemporary n → n ≢ main → n ≢ copy_of main → k n ≡ h n) f k) → k main ≡ Some info → IsMade own pair main text info b f k
      made f k s new =
          let g = s.0 in
          let h = s.1 in
          let same = s.5 in
          record {
            info_is = new;
            manifest_is = same pair pair_lasts apart.0 apart.1 ∙ all_main pair text pair_lasts pair_two g h s.4;
            has = record {
              stored = λ n is lasts has. subst (λ (v : Value). Holds b n v)
                  (sym (same n lasts (own_apart n main is main_out) (own_apart n (copy_of main) is main_copy_out) ∙ all_other pair text g h s.4 n lasts (own_apart n pair is pair_out) (own_apart n (copy_of pair) is copy_out)))
                  (subst (λ (o : Option Content). Holds o n (g n)) (sym s.2) refl);
            };
            others = λ n out lasts off off_copy off_main off_main_copy. same n lasts off_main off_main_copy ∙ all_other pair text g h s.4 n lasts off off_copy ∙ s.3.others n out lasts off off_copy;
          }

      -- while the list is saved
      pub listed_now : NowChanges (FirstOf (member_writes main info)) c d → NowChanges (λ f k. IsBeside own pair f k ⊎ IsMade own pair main text info b f k) a d
      listed_now listed = record {
        known = λ some. listed.known (saved.known (beside.known some));
        goes = λ f k is_f is_k.
            let s = steps (FirstOf (member_writes main info)) listed f k is_f is_k in
            let w = s.5 in
            ⊎_elim
            (λ (same : Alike s.1 k). inl (record { others = λ n out lasts off off_copy. same.same n lasts ∙ all_other pair text s.0 s.1 s.4 n lasts off off_copy ∙ s.3.others n out lasts off off_copy }))
            (λ (new : k main ≡ Some info). inr (made f k (s.0, s.1, s.2, s.3, s.4, λ n lasts off off_copy. first_other main info s.1 k w n lasts off off_copy) new))
            (first_main main info main_lasts main_two s.1 k w);
      }

      -- and once it is
      pub made_now : NowChanges (AllOf (member_writes main info)) c d → NowChanges (IsMade own pair main text info b) a d
      made_now listed = record {
        known = λ some. listed.known (saved.known (beside.known some));
        goes = λ f k is_f is_k.
            let s = steps (AllOf (member_writes main info)) listed f k is_f is_k in
            let w = s.5 in
            made f k (s.0, s.1, s.2, s.3, s.4, λ n lasts off off_copy. all_other main info s.1 k w n lasts off off_copy) (all_main main info main_lasts main_two s.1 k w);
      }
