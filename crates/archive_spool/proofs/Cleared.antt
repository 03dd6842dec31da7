-- Marks that were removed.
use Rattle.std.proofs.Common.{◌≡◌, ◌≢◌, ◌⊎◌, ⊎_elim, inl, inr, ℕ, Bool, true, false, ◌<◌, ◌+◌, List, [], ◌∷◌, ◌++◌, length, map, take, get_or, Option, Some, None, Result, Ok, Err, refl, ap, ap₂, ◌∙◌, sym, subst, append_assoc, arith}
use Rattle.std.specs.Prelude.{All, IfSome, IfNone, IsSome, IsTrue, is_some, option_map, bytes_eq, codes, string_bytes, String, not, ◌||◌}
use Rattle.std.specs.List.{list_any}
use Rattle.std.specs.declared.alloc.Global.{Global}
use Rattle.std.proofs.lemmas.List.{map-append, take_more, get_or_default}
use Rattle.std.proofs.lemmas.List.Elements.{All-contains, All-map}
use Rattle.std.proofs.lemmas.Slice.Eq.{bytes_eq-Decides}
use Rattle.base_devices.specs.Content.{Name, Value, Content, at, put, is_below, Changes, IsListing}
use Rattle.base_devices.specs.Crash.{IsTemporary}
use Rattle.base_devices.specs.Moments.{View, GrowsBy}
use Rattle.base_devices.specs.declared.disk.Found.{Found}
use Rattle.base_devices.specs.States.{DiskState, Works}
use Rattle.base_devices.proofs.Steps.{goes_on, goes_wide}
use Rattle.base_disk.proofs.Images.{by_name, put_same}
use Rattle.base_disk.specs.Dropped.{IsAbsent}
use Rattle.base_disk.proofs.Below.{below_prefix}
use Rattle.base_model.specs.declared.wal.ArchiveName.{ArchiveName}
use Rattle.base_model.specs.Names.{archive_folder, receipt_name, wal_text}
use Rattle.base_model.specs.Represents.{IsWalName}
use Rattle.base_model.specs.Text.{Text, ◌⫽◌, In}
use Rattle.archive_lookup.specs.Stored.{ChangesArchive}
use Rattle.archive_spool.specs.Clearing.{IsStale, IsStaleAt, IsMarkAt, Lessens, Clears, IsCleared}
use Rattle.archive_spool.specs.Marks.{GivesMarks, AddsMarks, IsNoReceipt}

-- ---- one name

pub some_mark : (prefix end text : Text) (r : Option ArchiveName) → is_some r ≡ true → IfSome r (λ name. text ≡ prefix ++ (wal_text name ++ end)) → IfSome r IsWalName → IsMarkAt prefix end text
some_mark prefix end text None on h fits = cc
some_mark prefix end text (Some name) on h fits = (name, fits, h)

pub no_mark : (prefix end text : Text) (r : Option ArchiveName) → is_some r ≡ false → IfNone r ((name : ArchiveName) → IsWalName name → text ≢ prefix ++ (wal_text name ++ end)) → ¬ IsMarkAt prefix end text
no_mark prefix end text None off h m = h m.0 m.1 m.2
no_mark prefix end text (Some name) off h m = cc

module _ (text t prefix f end e : Text) (text_is : t ≡ text) (prefix_is : f ≡ prefix) (end_is : e ≡ end) (r : Option ArchiveName) (b : Bool) (b_is : b ≡ is_some r) where
  pub mark_is : IfSome r (λ name. t ≡ f ++ (wal_text name ++ e)) → IfSome r IsWalName → b ≡ true → IsMarkAt prefix end text
  mark_is h fits on = let m = some_mark f e t r (sym b_is ∙ on) h fits in (m.0, m.1, sym text_is ∙ m.2 ∙ ap₂ (λ (x y : Text). x ++ (wal_text m.0 ++ y)) prefix_is end_is)

  pub mark_not : IfNone r ((name : ArchiveName) → IsWalName name → t ≢ f ++ (wal_text name ++ e)) → b ≡ false → ¬ IsMarkAt prefix end text
  mark_not h off m = no_mark f e t r (sym b_is ∙ off) h (m.0, m.1, text_is ∙ m.2 ∙ sym (ap₂ (λ (x y : Text). x ++ (wal_text m.0 ++ y)) prefix_is end_is))

-- neither of the two
pub no_stale : (prefix : Text) (receipts : List Name) (n : Name) → ¬ IsMarkAt prefix (codes ".error") n → ¬ (IsMarkAt prefix (codes ".ok") n × ¬ In n receipts) → ¬ IsStaleAt prefix receipts n
no_stale prefix receipts n a b (inl x) = a x
no_stale prefix receipts n a b (inr x) = b x

-- a receipt more
pub receipts_more : (stanza : Text) (ready : List ArchiveName) (i : ℕ) (d : ArchiveName) (before after : List (String Global)) (s : String Global) → i < length ready
    → map string_bytes before ≡ map (receipt_name stanza) (take i ready) → string_bytes s ≡ receipt_name stanza (get_or ready i d) → after ≡ before ++ s ∷ [] → map string_bytes after ≡ map (receipt_name stanza) (take (i + 1) ready)
receipts_more stanza ready i d before after s lt had named grown =
    let name = get_or ready i d in
    ap (map string_bytes) grown ∙ map-append string_bytes before (s ∷ []) ∙ ap₂ (λ (x : List Text) (y : Text). x ++ y ∷ []) had named
    ∙ sym (map-append (receipt_name stanza) (take i ready) (name ∷ []))
    ∙ ap (map (receipt_name stanza)) (ap (λ (z : ArchiveName). take i ready ++ z ∷ []) (get_or_default ready i d name lt) ∙ sym (take_more ready i name lt))

pub flip_off : (b : Bool) → not b ≡ true → b ≡ false
flip_off true e = cc
flip_off false e = refl

pub flip_on : (b : Bool) → not b ≡ false → b ≡ true
flip_on true e = refl
flip_on false e = cc

either : (x n : Name) (b : Bool) → bytes_eq x n ≡ b → (q : Bool) (xs : List Name) → (b || q) ≡ true → (q ≡ true → In n xs) → In n (x ∷ xs)
either x n true e q xs on h = inl (sym ((bytes_eq-Decides x n).0 e))
either x n false e q xs on h = inr (h on)

neither : (x n : Name) (b : Bool) → bytes_eq x n ≡ b → (q : Bool) (xs : List Name) → (b || q) ≡ false → (q ≡ false → ¬ In n xs) → ¬ In n (x ∷ xs)
neither x n true e q xs off h k = cc
neither x n false e q xs off h (inl same) = let u : ◌≡◌ {A = Bool} false true = sym e ∙ (bytes_eq-Decides x n).1 (sym same) in cc
neither x n false e q xs off h (inr k) = h off k

-- a name is among these
pub among : (names : List (String Global)) (n : Name) → list_any (λ each. bytes_eq (string_bytes each) n) names ≡ true → In n (map string_bytes names)
among [] n on = cc
among (x ∷ xs) n on = either (string_bytes x) n (bytes_eq (string_bytes x) n) refl (list_any (λ each. bytes_eq (string_bytes each) n) xs) (map string_bytes xs) on (λ h. among xs n h)

-- and where it isn't known, it isn't
pub not_among : (names : List (String Global)) (n : Name) → list_any (λ each. bytes_eq (string_bytes each) n) names ≡ false → ¬ In n (map string_bytes names)
not_among [] n off h = h
not_among (x ∷ xs) n off h = neither (string_bytes x) n (bytes_eq (string_bytes x) n) refl (list_any (λ each. bytes_eq (string_bytes each) n) xs) (map string_bytes xs) off (λ e. not_among xs n e) h

-- ---- one name is removed

module _ (these : Name → Type 0) where
  gone_at : (n q : Name) (f : Content) → these n → (at q (Some (put n None f)) ≡ at q (Some f)) ⊎ (these q × (at q (Some (put n None f)) ≡ option_map (λ _. None) (Some f)))
  gone_at n q f it = by_name n q (λ (v : Value). (◌≡◌ {A = Option Value} (Some v) (Some (f q))) ⊎ (these q × (◌≡◌ {A = Option Value} (Some v) (Some None)))) None (f q) (λ e. inr (subst these e it, refl)) (λ off. inl refl)

  mapped_lessens : (n : Name) (old new : Option Content) → these n → new ≡ option_map (put n None) old → Lessens these old new
  mapped_lessens n None new it is q = inl (ap (at q) is)
  mapped_lessens n (Some f) new it is q = ⊎_elim (λ e. inl (ap (at q) is ∙ e)) (λ (k : these q × (at q (Some (put n None f)) ≡ option_map (λ _. None) (Some f))). inr (k.0, ap (at q) is ∙ k.1)) (gone_at n q f it)

  pub removed_lessens : {T E : Type 0} (r : Result T E) (n : Name) (old new : Option Content) → these n → Changes r (put n None) old new → Lessens these old new
  removed_lessens (Ok x) n old new it is = mapped_lessens n old new it is
  removed_lessens (Err e) n old new it (inl is) = λ q. inl (ap (at q) is)
  removed_lessens (Err e) n old new it (inr is) = mapped_lessens n old new it is

  pub same_lessens : (o : Option Content) → Lessens these o o
  same_lessens o q = inl refl

  pub lessens_on : (a b c : Option Content) → Lessens these a b → Lessens these b c → Lessens these a c
  lessens_on a b c p q n = step a b (p n) (q n)
    where
      step : (a b : Option Content) → (at n b ≡ at n a) ⊎ (these n × (at n b ≡ option_map (λ _. None) a)) → (at n c ≡ at n b) ⊎ (these n × (at n c ≡ option_map (λ _. None) b)) → (at n c ≡ at n a) ⊎ (these n × (at n c ≡ option_map (λ _. None) a))
      step a b (inl e) (inl f) = inl (f ∙ e)
      step a b (inr e) (inl f) = inr (e.0, f ∙ e.1)
      step None None h (inr f) = inr f
      step (Some x) (Some y) h (inr f) = inr f
      step None (Some y) (inl e) (inr f) = let u : ◌≡◌ {A = Option Value} (Some (y n)) None = e in cc
      step None (Some y) (inr e) (inr f) = let u : ◌≡◌ {A = Option Value} (Some (y n)) None = e.1 in cc
      step (Some x) None (inl e) (inr f) = let u : ◌≡◌ {A = Option Value} None (Some (x n)) = e in cc
      step (Some x) None (inr e) (inr f) = let u : ◌≡◌ {A = Option Value} None (Some None) = e.1 in cc

  absent_on : (n : Name) (b c : Option Content) → (at n c ≡ at n b) ⊎ (these n × (at n c ≡ option_map (λ _. None) b)) → IsAbsent b n → IsAbsent c n
  absent_on n b None h absent = tt
  absent_on n None (Some g) (inl e) absent = let u : ◌≡◌ {A = Option Value} (Some (g n)) None = e in cc
  absent_on n None (Some g) (inr e) absent = let u : ◌≡◌ {A = Option Value} (Some (g n)) None = e.1 in cc
  absent_on n (Some f) (Some g) (inl e) absent = let u : ◌≡◌ {A = Option Value} (Some (g n)) (Some (f n)) = e in (let k : g n ≡ f n = cc in k ∙ absent)
  absent_on n (Some f) (Some g) (inr e) absent = let u : ◌≡◌ {A = Option Value} (Some (g n)) (Some None) = e.1 in cc

  -- one name more
  pub gone_more : (found : List Found) (i : ℕ) (item : Found) (mid new : Option Content) → i < length found → item ≡ get_or found i item → Lessens these mid new
      → ((k : ℕ) (x : Found) → k < i → these (string_bytes (get_or found k x).name) → IsAbsent mid (string_bytes (get_or found k x).name))
      → (these (string_bytes item.name) → IsAbsent new (string_bytes item.name))
      → (k : ℕ) (x : Found) → k < i + 1 → these (string_bytes (get_or found k x).name) → IsAbsent new (string_bytes (get_or found k x).name)
  gone_more found i item mid new lt is less had now k x low it = ⊎_elim
      (λ (before : k < i). absent_on (string_bytes (get_or found k x).name) mid new (less (string_bytes (get_or found k x).name)) (had k x before it))
      (λ (here : k ≡ i).
      let same : get_or found k x ≡ item = ap (λ (j : ℕ). get_or found j x) here ∙ get_or_default found i x item lt ∙ sym is in
      subst (λ (y : Found). IsAbsent new (string_bytes y.name)) (sym same) (now (subst (λ (y : Found). these (string_bytes y.name)) same it)))
      (let which : (k < i) ⊎ (k ≡ i) = grind arith in which)

pub removed_gone : (n : Name) (old new : Option Content) → new ≡ option_map (put n None) old → IsAbsent new n
removed_gone n None new is = subst (λ (o : Option Content). IsAbsent o n) (sym is) tt
removed_gone n (Some f) new is = subst (λ (o : Option Content). IsAbsent o n) (sym is) (put_same n None f)

pub works_on : (A : Name → Value → Type 0) (L : Name → Type 0) (a b c : DiskState) → Works A L a b → Works A L b c → Works A L a c
works_on A L a b c p q = record {
  time = goes_on A L a.view b.view c.view p.time q.time;
  opened = q.opened ∙ p.opened;
  proper = q.proper ∙ p.proper;
  later = omega (arith, p.later, q.later);
}

pub works_still : (A : Name → Value → Type 0) (L : Name → Type 0) (a : DiskState) → Works A L a a
works_still A L a = record {
  time = record {
    later = omega arith;
    same = λ t n v le k. k;
    stays = λ t n v le k. k;
    same_unsynced = λ t n le. refl;
    grows = λ t n v lo hi k. inl (subst (λ (m : ℕ). a.view.kept m n v) (let e : t ≡ a.view.moment = omega (arith, lo, hi) in e) k);
    unsyncs = λ t n lo hi l. inl (subst (λ (m : ℕ). a.view.unsynced m n ≡ true) (let e : t ≡ a.view.moment = omega (arith, lo, hi) in e) l);
  };
  opened = refl;
  proper = refl;
  later = omega arith;
}

pub removed_works : (these : Name → Type 0) (n : Name) (a b : DiskState) → these n → Works (λ m v. (m ≡ n) × (v ≡ None)) (λ _. ⊥) a b → Works (λ m v. these m × (v ≡ None)) (λ _. ⊥) a b
removed_works these n a b it w = record {
  time = goes_wide (λ m v. (m ≡ n) × (v ≡ None)) (λ m v. these m × (v ≡ None)) (λ _. ⊥) (λ _. ⊥) a.view b.view (λ m v x. (subst these (sym x.0) it, x.1)) (λ m x. x) w.time;
  opened = w.opened;
  proper = w.proper;
  later = w.later;
}

-- ---- a name among all

module _ (stanza prefix folder : Text) (folder_is : folder ≡ archive_folder stanza ⫽ codes "out") (prefix_is : prefix ≡ folder ++ 47 ∷ []) (receipts : List Name) (ready : List ArchiveName) (receipts_is : receipts ≡ map (receipt_name stanza) ready) where
  in_folder : (x : Text) → prefix ++ x ≡ archive_folder stanza ⫽ codes "out" ⫽ x
  in_folder x = ap (λ (t : Text). t ++ x) (prefix_is ∙ ap (λ (t : Text). t ++ 47 ∷ []) folder_is)
      ∙ append_assoc (archive_folder stanza ⫽ codes "out") (47 ∷ []) x ∙ append_assoc (archive_folder stanza) (47 ∷ codes "out") (47 ∷ x)

  stale : (n : Name) → IsStaleAt prefix receipts n → IsStale stanza ready n
  stale n (inl m) = inl (m.0, m.1, m.2 ∙ in_folder (wal_text m.0 ++ codes ".error"))
  stale n (inr m) = inr ((m.0.0, m.0.1, m.0.2 ∙ in_folder (wal_text m.0.0 ++ codes ".ok")), λ h. m.1 (subst (λ (l : List Name). In n l) (sym receipts_is) h))

  stale_at : (n : Name) → IsStale stanza ready n → IsStaleAt prefix receipts n
  stale_at n (inl m) = inl (m.0, m.1, m.2 ∙ sym (in_folder (wal_text m.0 ++ codes ".error")))
  stale_at n (inr m) = inr ((m.0.0, m.0.1, m.0.2 ∙ sym (in_folder (wal_text m.0.0 ++ codes ".ok"))), λ h. m.1 (subst (λ (l : List Name). In n l) receipts_is h))

  below_out : (n : Name) → IsStaleAt prefix receipts n → is_below folder n ≡ true
  below_out n (inl m) = below_prefix folder (wal_text m.0 ++ codes ".error") n (m.2 ∙ ap (λ (t : Text). t ++ (wal_text m.0 ++ codes ".error")) prefix_is ∙ append_assoc folder (47 ∷ []) (wal_text m.0 ++ codes ".error"))
  below_out n (inr m) = below_prefix folder (wal_text m.0.0 ++ codes ".ok") n (m.0.2 ∙ ap (λ (t : Text). t ++ (wal_text m.0.0 ++ codes ".ok")) prefix_is ∙ append_assoc folder (47 ∷ []) (wal_text m.0.0 ++ codes ".ok"))

  below_archive : (n : Name) → IsStaleAt prefix receipts n → IsTrue (is_below (archive_folder stanza) n)
  below_archive n (inl m) = below_prefix (archive_folder stanza) (codes "out" ⫽ (wal_text m.0 ++ codes ".error")) n (m.2 ∙ in_folder (wal_text m.0 ++ codes ".error"))
  below_archive n (inr m) = below_prefix (archive_folder stanza) (codes "out" ⫽ (wal_text m.0.0 ++ codes ".ok")) n (m.0.2 ∙ in_folder (wal_text m.0.0 ++ codes ".ok"))

  some_same : (v w : Value) → ◌≡◌ {A = Option Value} (Some v) (Some w) → v ≡ w
  some_same v w e = cc

  -- ---- what the spool holds then

  lessens_known : (old new : Option Content) → Lessens (IsStaleAt prefix receipts) old new → IsSome old → IsSome new
  lessens_known None new h some = cc
  lessens_known (Some f) (Some g) h some = refl
  lessens_known (Some f) None h some = ⊎_elim (λ (e : at [] None ≡ at [] (Some f)). let u : ◌≡◌ {A = Option Value} None (Some (f [])) = e in cc)
      (λ (k : IsStaleAt prefix receipts [] × (at [] None ≡ option_map (λ _. None) (Some f))). let u : ◌≡◌ {A = Option Value} None (Some None) = k.1 in cc) (h [])

  pub lessens_clears : (old new : Option Content) → Lessens (IsStaleAt prefix receipts) old new → Clears (IsStale stanza ready) old new
  lessens_clears old new h = record { known = lessens_known old new h; each = λ f g is now n. each f g is now n (h n) }
    where
      each : (f g : Content) → old ≡ Some f → new ≡ Some g → (n : Name) → (at n new ≡ at n old) ⊎ (IsStaleAt prefix receipts n × (at n new ≡ option_map (λ _. None) old)) → (g n ≡ f n) ⊎ (IsStale stanza ready n × (g n ≡ None))
      each f g is now n (inl e) = inl (some_same (g n) (f n) (sym (ap (at n) now) ∙ e ∙ ap (at n) is))
      each f g is now n (inr k) = inr (stale n k.0, some_same (g n) None (sym (ap (at n) now) ∙ k.1 ∙ ap (option_map (λ (_ : Content). None)) is))

  pub all_gone : (found : List Found) (old new : Option Content) → IfSome old (λ f. IsListing folder f (map (λ x. (string_bytes x.name, x.size)) found)) → Lessens (IsStaleAt prefix receipts) old new
      → All (λ x. IsStaleAt prefix receipts (string_bytes x.name) → IsAbsent new (string_bytes x.name)) found → IsCleared (IsStale stanza ready) old new
  all_gone found old new listing h gone = record { clears = lessens_clears old new h; gone = λ g now n is. by old refl g now n (stale_at n is) }
    where
      by : (o : Option Content) → old ≡ o → (g : Content) → new ≡ Some g → (n : Name) → IsStaleAt prefix receipts n → g n ≡ None
      by None e g now n is = ⊎_elim (λ (k : at n new ≡ at n old). let u : ◌≡◌ {A = Option Value} (Some (g n)) None = sym (ap (at n) now) ∙ k ∙ ap (at n) e in cc)
          (λ (k : IsStaleAt prefix receipts n × (at n new ≡ option_map (λ _. None) old)). some_none (sym (ap (at n) now) ∙ k.1 ∙ ap (option_map (λ (_ : Content). None)) e)) (h n)
        where
          some_none : ◌≡◌ {A = Option Value} (Some (g n)) None → g n ≡ None
          some_none e = cc
      by (Some f) e g now n is = value (f n) refl
        where
          value : (v : Value) → f n ≡ v → g n ≡ None
          value None none = ⊎_elim (λ (k : g n ≡ f n). k ∙ none) (λ k. k.1) ((lessens_clears old new h).each f g e now n)
          value (Some bytes) some =
              let P : Option Content → Type 0 = λ o. IfSome o (λ f. IsListing folder f (map (λ (x : Found). (string_bytes x.name, x.size)) found)) in
              let list : P (Some f) = subst P e listing in
              let absent = All-contains (λ (p : Name × ℕ). IsStaleAt prefix receipts p.0 → IsAbsent new p.0) (map (λ (x : Found). (string_bytes x.name, x.size)) found) (n, length bytes)
              (All-map (λ (p : Name × ℕ). IsStaleAt prefix receipts p.0 → IsAbsent new p.0) (λ (x : Found). (string_bytes x.name, x.size)) found gone) (list.all n bytes (below_out n is) some) is in
              let Q : Option Content → Type 0 = λ o. IsAbsent o n in
              let here : Q (Some g) = subst Q now absent in here

  -- ---- what a crash leaves

  pub less_marks : (a b : View) → GrowsBy (λ n v. IsStaleAt prefix receipts n × (v ≡ None)) (λ _. ⊥) a b → GivesMarks stanza [] a b
  less_marks a b goes = goes_wide (λ n v. IsStaleAt prefix receipts n × (v ≡ None)) (AddsMarks stanza []) (λ _. ⊥) (IsNoReceipt stanza) a b (λ n v x name is k. inl x.1) (λ n x. absurd x) goes

  pub less_only : (a b : View) → GrowsBy (λ n v. IsStaleAt prefix receipts n × (v ≡ None)) (λ _. ⊥) a b → Lessens (IsStaleAt prefix receipts) a.now b.now → ChangesArchive stanza a b
  less_only a b goes h = record {
    now = λ n off. ⊎_elim (λ e. e) (λ (k : IsStaleAt prefix receipts n × (at n b.now ≡ option_map (λ _. None) a.now)). absurd (off (below_archive n k.0))) (h n);
    time = goes_wide (λ n v. IsStaleAt prefix receipts n × (v ≡ None)) (λ n _. IsTrue (is_below (archive_folder stanza) n)) (λ _. ⊥) (λ n. IsTrue (is_below (archive_folder stanza) n) × IsTemporary n) a b
        (λ n v x. below_archive n x.0) (λ n x. absurd x) goes;
  }

-- a spool of which only names were read, or none
pub none_cleared : (these : Name → Type 0) (old new : Option Content) → new ≡ old → Clears these old new
none_cleared these old new same = record {
  known = λ some. subst (λ (o : Option Content). IsSome o) (sym same) some;
  each = λ f g is now n. inl (let e : ◌≡◌ {A = Option Content} (Some g) (Some f) = sym now ∙ same ∙ is in (let k : g ≡ f = cc in ap (λ (h : Content). h n) k));
}

pub found_all : (seen found : List Found) → seen ≡ found → (P : Found → Type 0) → All P seen → All P found
found_all seen found same P h = subst (λ (l : List Found). All P l) same h

pub gone_as : (these : Name → Type 0) (n m : Name) (o : Option Content) → n ≡ m → (these n → IsAbsent o n) → these m → IsAbsent o m
gone_as these n m o same h = subst (λ (k : Name). these k → IsAbsent o k) same h
