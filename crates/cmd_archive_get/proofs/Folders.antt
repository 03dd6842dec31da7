-- A file is put into the data folder.
use Rattle.std.proofs.Common.{◌≡◌, inl, inr, ℕ, Option, Some, None, option_map, Result, Ok, Err, refl, ap, sym, ◌∙◌, arith, length, length-append, subst, []}
use Rattle.std.specs.Prelude.{◌≢◌, ◌⊎◌, IsSome, IfSome, codes}
use Rattle.std.proofs.lemmas.Grind.{common_steps}
use Rattle.std.proofs.lemmas.Slice.Eq.{bytes_eq-Decides}
use Rattle.base_devices.specs.Content.{Name, at, SameBut}
use Rattle.base_devices.specs.DataFolder.{Held, file, Nodes, file_bytes, with_node, longer, lengthened_file, moved_node, ChangesTree, ChangesFile}
use Rattle.base_model.specs.Text.{Text}
use Rattle.cmd_archive_get.specs.Getting.{HasFile, IsPut, ChangesPath, temporary_path}

pub set_other : (name : Name) (x : Option Held) (f : Nodes) (q : Name) → q ≢ name → with_node name x f q ≡ f q
set_other name x f q apart = grind (arith, common_steps, bytes_eq-Decides name q)

pub set_same : (name : Name) (x : Option Held) (f : Nodes) → with_node name x f name ≡ x
set_same name x f = grind (arith, common_steps, bytes_eq-Decides name name)

not_temporary : (path : Text) → path ≢ temporary_path path
not_temporary path e = absurd (omega (arith, ap length e, length-append path (codes ".pgbackrest.tmp")))

known_at : (q : Name) (old new : Option Nodes) → IsSome old → at q new ≡ at q old → IsSome new
known_at q (Some f) (Some g) some e = refl
known_at q (Some f) None some e = let h : ◌≡◌ {A = Option (Option Held)} None (Some (f q)) = e in cc
known_at q None (Some g) some e = refl
known_at q None None some e = some

-- what is at a path that stays is still there
still_has : (path bytes : Text) (mid new : Option Nodes) → at path new ≡ at path mid → IfSome mid (HasFile path bytes) → IfSome new (HasFile path bytes)
still_has path bytes mid None e has = tt
still_has path bytes None (Some g) e has = let h : ◌≡◌ {A = Option (Option Held)} (Some (g path)) None = e in cc
still_has path bytes (Some f) (Some g) e has = let h : ◌≡◌ {A = Option (Option Held)} (Some (g path)) (Some (f path)) = e in let same : g path ≡ f path = cc in ap file_bytes same ∙ has

module _ (path : Text) (IsOf : Text → Type 0) where
  abbrev Goes : Option Nodes → Option Nodes → Type 0
  Goes old new = ChangesPath path IsOf old new

  -- only the temporary file has changed
  pub changes_temporary : (old new : Option Nodes) → SameBut (temporary_path path) old new → Goes old new
  changes_temporary old new same = record {
    known = λ some. known_at path old new some (same path (not_temporary path));
    others = λ q other not_temp. same q not_temp;
    whole = inl (same path (not_temporary path));
  }

  abbrev Whole : Option Nodes → Option Nodes → Type 0
  Whole old new = (at path new ≡ at path old) ⊎ ((bytes : Text) × IsOf bytes × IfSome new (HasFile path bytes))

  whole_on : (old mid new : Option Nodes) → Whole old mid → Whole mid new → Whole old new
  whole_on old mid new first (inr x) = inr x
  whole_on old mid new (inl d) (inl e) = inl (e ∙ d)
  whole_on old mid new (inr x) (inl e) = inr (x.0, x.1, still_has path x.0 mid new e x.2)

  -- one change after another
  pub changes_on : (old mid new : Option Nodes) → Goes old mid → Goes mid new → Goes old new
  changes_on old mid new first next = record {
    known = λ some. next.known (first.known some);
    others = λ q other not_temp. next.others q other not_temp ∙ first.others q other not_temp;
    whole = whole_on old mid new first.whole next.whole;
  }

  same_but : (x : Nodes → Option Held) (o : Option Nodes) → SameBut (temporary_path path) o (option_map (λ (f : Nodes). with_node (temporary_path path) (x f) f) o)
  same_but x None q apart = refl
  same_but x (Some f) q apart = ap (λ (v : Option Held). Some v) (set_other (temporary_path path) (x f) f q apart)

  -- a change of the temporary file alone
  temporary_set : (x : Nodes → Option Held) (o : Option Nodes) → Goes o (option_map (λ (f : Nodes). with_node (temporary_path path) (x f) f) o)
  temporary_set x o = changes_temporary o _ (same_but x o)

  by_eq : (old new other : Option Nodes) → new ≡ other → Goes old other → Goes old new
  by_eq old new other is h = subst (λ (o : Option Nodes). Goes old o) (sym is) h

  none_changes : (old new : Option Nodes) → new ≡ old → Goes old new
  none_changes old new is = by_eq old new old is (record { known = λ some. some; others = λ q other not_temp. refl; whole = inl refl })

  -- a file is begun there
  pub begins : {T E : Type 0} (result : Result T E) (temporary : Text) (old new : Option Nodes) → temporary ≡ temporary_path path → ChangesFile result temporary (λ time. with_node temporary (Some (file [] time))) old new → Goes old new
  begins (Ok x) temporary old new is h = by_eq old new _ h.1 (subst (λ (t : Name). Goes old (option_map (with_node t (Some (file [] h.0))) old)) (sym is) (temporary_set (λ f. Some (file [] h.0)) old))
  begins (Err e) temporary old new is h = changes_temporary old new (subst (λ (t : Name). SameBut t old new) is h)

  -- and more bytes are added to it
  pub appends : {T E : Type 0} (result : Result T E) (temporary bytes : Text) (old new : Option Nodes) → temporary ≡ temporary_path path → ChangesFile result temporary (lengthened_file temporary bytes) old new → Goes old new
  appends (Ok x) temporary bytes old new is h = by_eq old new _ h.1 (subst (λ (t : Name). Goes old (option_map (lengthened_file t bytes h.0) old)) (sym is) (temporary_set (λ f. longer bytes h.0 (f (temporary_path path))) old))
  appends (Err e) temporary bytes old new is h = changes_temporary old new (subst (λ (t : Name). SameBut t old new) is h)

-- ---- a file that is written and renamed

-- the temporary file has the bytes
pub written : (temporary bytes : Text) (one two : ℕ) (old mid new : Option Nodes) → mid ≡ option_map (with_node temporary (Some (file [] one))) old → new ≡ option_map (lengthened_file temporary bytes two) mid → IfSome new (HasFile temporary bytes)
written temporary bytes one two old mid new first next = subst (λ (o : Option Nodes). IfSome o (HasFile temporary bytes)) (sym (next ∙ ap (option_map (lengthened_file temporary bytes two)) first)) (go old)
  where
    go : (o : Option Nodes) → IfSome (option_map (lengthened_file temporary bytes two) (option_map (with_node temporary (Some (file [] one))) o)) (HasFile temporary bytes)
    go None = tt
    go (Some f) =
        let g : Nodes = with_node temporary (Some (file [] one)) f in
        ap file_bytes (set_same temporary (longer bytes two (g temporary)) g ∙ ap (longer bytes two) (set_same temporary (Some (file [] one)) f))

moved_path : (path temporary : Text) (f : Nodes) → moved_node temporary path f path ≡ f temporary
moved_path path temporary f = set_same path (f temporary) (with_node temporary None f)

moved_alone : (path : Text) (f : Nodes) → moved_node (temporary_path path) path f (temporary_path path) ≡ None
moved_alone path f =
    set_other path (f (temporary_path path)) (with_node (temporary_path path) None f) (temporary_path path) (λ e. not_temporary path (sym e)) ∙ set_same (temporary_path path) None f

module _ (path bytes : Text) where
  moves : (o : Option Nodes) → IfSome o (HasFile (temporary_path path) bytes) → ChangesPath path (λ b. b ≡ bytes) o (option_map (moved_node (temporary_path path) path) o)
  moves None has = record { known = λ some. some; others = λ q other not_temp. refl; whole = inl refl }
  moves (Some f) has = record {
    known = λ some. refl;
    others = λ q other not_temp. ap (λ (v : Option Held). Some v) (set_other path (f (temporary_path path)) (with_node (temporary_path path) None f) q other ∙ set_other (temporary_path path) None f q not_temp);
    whole = inr (bytes, refl, ap file_bytes (moved_path path (temporary_path path) f) ∙ has);
  }

  puts : (o : Option Nodes) → IfSome o (HasFile (temporary_path path) bytes) → IfSome (option_map (moved_node (temporary_path path) path) o) (IsPut path bytes)
  puts None has = tt
  puts (Some f) has = record { whole = ap file_bytes (moved_path path (temporary_path path) f) ∙ has; alone = moved_alone path f }

  -- the temporary file is renamed
  pub renames : {T E : Type 0} (result : Result T E) (temporary : Text) (old new : Option Nodes) → temporary ≡ temporary_path path → IfSome old (HasFile temporary bytes) → ChangesTree result (moved_node temporary path) old new → ChangesPath path (λ b. b ≡ bytes) old new
  renames (Ok x) temporary old new is has h = by_eq path (λ b. b ≡ bytes) old new _ h
      (subst (λ (t : Name). ChangesPath path (λ b. b ≡ bytes) old (option_map (moved_node t path) old)) (sym is) (moves old (subst (λ (t : Name). IfSome old (HasFile t bytes)) is has)))
  renames (Err e) temporary old new is has h = none_changes path (λ b. b ≡ bytes) old new h

  pub renamed : (temporary : Text) (old new : Option Nodes) → temporary ≡ temporary_path path → IfSome old (HasFile temporary bytes) → new ≡ option_map (moved_node temporary path) old → IfSome new (IsPut path bytes)
  renamed temporary old new is has h = subst (λ (o : Option Nodes). IfSome o (IsPut path bytes)) (sym h)
      (subst (λ (t : Name). IfSome (option_map (moved_node t path) old) (IsPut path bytes)) (sym is) (puts old (subst (λ (t : Name). IfSome old (HasFile t bytes)) is has)))

-- what is put there is of the kind that is asked for
pub changes_as : (path : Text) (P Q : Text → Type 0) (old new : Option Nodes) → ((b : Text) → P b → Q b) → ChangesPath path P old new → ChangesPath path Q old new
changes_as path P Q old new to h = record { known = h.known; others = h.others; whole = go h.whole }
  where
    go : (at path new ≡ at path old) ⊎ ((bytes : Text) × P bytes × IfSome new (HasFile path bytes)) → (at path new ≡ at path old) ⊎ ((bytes : Text) × Q bytes × IfSome new (HasFile path bytes))
    go (inl e) = inl e
    go (inr x) = inr (x.0, to x.0 x.1, x.2)
