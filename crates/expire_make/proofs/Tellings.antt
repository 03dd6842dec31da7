-- The files of one cluster that aren't kept, and those of all clusters.
use Rattle.std.proofs.Common.{◌≡◌, ◌⊎◌, ⊎_elim, inl, inr, ℕ, suc, ◌+◌, ◌<◌, arith, length, get_or, drop, drop-cons, true, false, List, [], ◌∷◌, ◌++◌, Option, Some, None, refl, ap, ◌∙◌, sym, subst, append_assoc, IsTrue, codes}
use Rattle.std.specs.Prelude.{IfSome, IsSome, nat_eq}
use Rattle.std.proofs.lemmas.Bool.{false≢true}
use Rattle.base_text.specs.Sum.{IsSum, sum_text}
use Rattle.base_devices.specs.Content.{Name, Value, Content, is_below, AreFolders}
use Rattle.base_devices.specs.States.{DiskState, OnlyReads}
use Rattle.base_disk.specs.Dropped.{IsAbsent}
use Rattle.base_disk.proofs.Below.{below_prefix}
use Rattle.base_model.specs.declared.clusters.ClusterId.{ClusterId}
use Rattle.base_model.specs.declared.wal.ArchiveId.{ArchiveId}
use Rattle.base_model.specs.declared.wal.ArchiveName.{ArchiveName}
use Rattle.base_model.specs.declared.wal.ArchiveName.TheVariants.{Segment as Whole, Partial, History, Backup}
use Rattle.base_model.specs.Text.{Text, In, ◌⫽◌}
use Rattle.base_model.specs.Names.{archive_folder, archive_text, id_text, segment_text, segment_folder}
use Rattle.base_model.specs.Represents.{IsArchivePlace}
use Rattle.base_model.specs.Values.{Entry}
use Rattle.archive_lookup.specs.Paths.{IsReadAs, below_folder}
use Rattle.archive_lookup.proofs.Orders.{in_of}
use Rattle.archive_lookup.proofs.Bounding.{folder_named}
use Rattle.expire_rules.specs.declared.rules.Rules.{Rules}
use Rattle.expire_rules.specs.declared.rules.KeptFiles.{KeptFiles}
use Rattle.expire_rules.specs.Needed.{Keeping, keeping, keeping_of, of_cluster, keeps_file}
use Rattle.expire_rules.specs.Known.{keeping_known}
use Rattle.expire_make.specs.Losing.{TakesAway, IsUnneeded}
use Rattle.expire_make.specs.Planning.{keeps_by}
use Rattle.expire_make.specs.Unneeded.{IsForgotten, Forgets, prefix_of, id_in, ids_in}
use Rattle.expire_make.proofs.Forgets.{one_name}
use Rattle.expire_make.proofs.Losses.{takes_wide}
use Rattle.expire_make.proofs.Removals.{absent_stays}

-- whichever stanza's folder the prefix is
abbrev pub Unneeds : Text → Rules → ℕ → List Entry → Name → Type 0
Unneeds prefix rules current es n = (stanza : Text) → prefix ≡ prefix_of stanza → IsUnneeded stanza (keeps_by rules current es) n

-- a name after a folder
following : (place x rest n : Text) → n ≡ place ++ 47 ∷ (x ++ 47 ∷ rest) → n ≡ (place ⫽ x) ++ 47 ∷ rest
following place x rest n is = is ∙ sym (append_assoc place (47 ∷ x) (47 ∷ rest))

module _ (rules : Rules) (current : ℕ) (es : List Entry) (id : ArchiveId) (kept : KeptFiles) (kept_id : kept.id ≡ id) (known : keeping_known kept ≡ keeping rules (nat_eq id.number current) (of_cluster id.number es)) where
  -- what is kept of a file under the id
  same : (name : ArchiveName) → keeps_file (keeping_known kept) name ≡ keeps_by rules current es kept.id name
  same name = ap (λ (k : Keeping). keeps_file k name) known ∙ ap (λ (i : ArchiveId). keeps_file (keeping_of rules current es i.number) name) (sym kept_id)

  pub forgotten_unneeded : (stanza : Text) (n : Name) → IsForgotten stanza kept n → IsUnneeded stanza (keeps_by rules current es) n
  forgotten_unneeded stanza n h = record { id = kept.id; file = h.file; sum = h.sum; fits = h.fits; is = h.is; not_kept = sym (same h.file) ∙ h.not_kept }

  pub unneeded_forgotten : (stanza : Text) (n : Name) → (u : IsUnneeded stanza (keeps_by rules current es) n) → u.id ≡ id → IsForgotten stanza kept n
  unneeded_forgotten stanza n u at =
      let e : u.id ≡ kept.id = at ∙ sym kept_id in
      record {
        file = u.file;
        sum = u.sum;
        fits = subst (λ (i : ArchiveId). IsArchivePlace i u.file u.sum) e u.fits;
        is = u.is ∙ ap (λ (i : ArchiveId). archive_folder stanza ⫽ id_text i ⫽ archive_text u.file (sum_text u.sum)) e;
        not_kept = same u.file ∙ ap (λ (i : ArchiveId). keeps_by rules current es i u.file) (sym e) ∙ u.not_kept;
      }

  pub forgets_unneeds : (prefix : Text) (a b : DiskState) → TakesAway (Forgets prefix kept) a b → TakesAway (λ n. (stanza : Text) → prefix ≡ prefix_of stanza → IsUnneeded stanza (keeps_by rules current es) n) a b
  forgets_unneeds prefix a b p = takes_wide (Forgets prefix kept) (Unneeds prefix rules current es) a b (λ n h stanza prefix_is. forgotten_unneeded stanza n (h stanza prefix_is)) p

  -- where all is kept there is no such file
  pub none_unneeded : kept.all ≡ true → (stanza : Text) (n : Name) → (u : IsUnneeded stanza (keeps_by rules current es) n) → u.id ≡ id → ⊥
  none_unneeded all stanza n u at = let h = unneeded_forgotten stanza n u at in by h.file h.not_kept
    where
      by : (name : ArchiveName) → keeps_file (keeping_known kept) name ≡ false → ⊥
      by (Whole s) off = false≢true (sym off ∙ rw all refl)
      by (Partial s) off = false≢true (sym off ∙ rw all refl)
      by (Backup s offset) off = false≢true (sym off ∙ rw all refl)
      by (History timeline) off = false≢true (sym off)

  -- a file that isn't kept lies in a folder of the log
  in_log : (stanza place : Text) → place ≡ archive_folder stanza ⫽ id_text id → (n : Name) → IsForgotten stanza kept n → (x : Text) × (rest : Text) × (n ≡ (place ⫽ x) ++ 47 ∷ rest) × ((f : Content) (known : List Name) → AreFolders place f known → IsSome (f n) → In x known)
  in_log stanza place place_is n h = by h.file h.is h.not_kept
    where
      at : (x rest : Text) → n ≡ archive_folder stanza ⫽ id_text kept.id ⫽ (x ++ 47 ∷ rest) → n ≡ (place ⫽ x) ++ 47 ∷ rest
      at x rest is = following place x rest n (is ∙ ap (λ (i : ArchiveId). archive_folder stanza ⫽ id_text i ⫽ (x ++ 47 ∷ rest)) kept_id
          ∙ sym (append_assoc (archive_folder stanza) (47 ∷ id_text id) (47 ∷ (x ++ 47 ∷ rest))) ∙ ap (λ (t : Text). t ++ 47 ∷ (x ++ 47 ∷ rest)) (sym place_is))

      found : (s : _) (rest : Text) → n ≡ archive_folder stanza ⫽ id_text kept.id ⫽ (segment_folder s ++ 47 ∷ rest) → (x : Text) × (rest : Text) × (n ≡ (place ⫽ x) ++ 47 ∷ rest) × ((f : Content) (known : List Name) → AreFolders place f known → IsSome (f n) → In x known)
      found s rest is = (
        segment_folder s,
        rest,
        at (segment_folder s) rest is,
        λ f known folders some. in_of known (segment_folder s) (folders.all (segment_folder s) rest (folder_named s) (subst (λ (t : Text). IsSome (f t)) (at (segment_folder s) rest is) some)),
      )

      by : (name : ArchiveName) → n ≡ archive_folder stanza ⫽ id_text kept.id ⫽ archive_text name (sum_text h.sum) → keeps_file (keeping_known kept) name ≡ false → (x : Text) × (rest : Text) × (n ≡ (place ⫽ x) ++ 47 ∷ rest) × ((f : Content) (known : List Name) → AreFolders place f known → IsSome (f n) → In x known)
      by (Whole s) is off = found s (segment_text s ++ 45 ∷ sum_text h.sum) is
      by (Partial s) is off = found s (segment_text s ++ codes ".partial-" ++ sum_text h.sum) is
      by (Backup s offset) is off = found s _ is
      by (History timeline) is off = absurd (false≢true (sym off))

  -- all are gone, once the folders of the log were gone through
  pub gone_under : (prefix place : Text) (known : List Name) (a m b : DiskState) → OnlyReads a m → IfSome a.view.now (λ f. AreFolders place f known) → TakesAway (Forgets prefix kept) m b
      → ((stanza : Text) → prefix ≡ prefix_of stanza → (n x : Name) → In x known → IsTrue (is_below (place ⫽ x) n) → IsForgotten stanza kept n → IsAbsent b.view.now n)
      → place ≡ prefix ++ id_text id → (stanza : Text) → prefix ≡ prefix_of stanza → (n : Name) → (u : IsUnneeded stanza (keeps_by rules current es) n) → u.id ≡ id → IsAbsent b.view.now n
  gone_under prefix place known a m b looks folders takes gone place_is stanza prefix_is n u at_id = by a.view.now refl folders
    where
      h : IsForgotten stanza kept n
      h = unneeded_forgotten stanza n u at_id

      place_so : place ≡ archive_folder stanza ⫽ id_text id
      place_so = place_is ∙ ap (λ (t : Text). t ++ id_text id) prefix_is ∙ append_assoc (archive_folder stanza) (47 ∷ []) (id_text id)

      by : (o : Option Content) → a.view.now ≡ o → IfSome o (λ f. AreFolders place f known) → IsAbsent b.view.now n
      by None e l = absent_stays (Forgets prefix kept) m b n takes (subst (λ (o : Option Content). IsAbsent o n) (sym (looks.now ∙ e)) tt)
      by (Some f) e l = there (f n) refl
        where
          there : (v : Value) → f n ≡ v → IsAbsent b.view.now n
          there None none = absent_stays (Forgets prefix kept) m b n takes (subst (λ (o : Option Content). IsAbsent o n) (sym (looks.now ∙ e)) none)
          there (Some bytes) some =
              let (x, rest, is, has) = in_log stanza place place_so n h in
              gone stanza prefix_is n x (has f known l (subst (λ (v : Value). IsSome v) (sym some) refl)) (below_prefix (place ⫽ x) rest n is) h

-- ---- all clusters

abbrev pub GoneEach : Text → Rules → ℕ → List Entry → List ArchiveId → List ArchiveId → Option Content → Type 0
GoneEach prefix rules current es all ahead now = (stanza : Text) → prefix ≡ prefix_of stanza → (n : Name) → (u : IsUnneeded stanza (keeps_by rules current es) n) → In u.id all → IsAbsent now n ⊎ In u.id ahead

module _ (prefix : Text) (rules : Rules) (current : ℕ) (es : List Entry) (all : List ArchiveId) where
  pub each_next : (id : ArchiveId) (rest : List ArchiveId) (a b : DiskState) → TakesAway (λ n. (stanza : Text) → prefix ≡ prefix_of stanza → IsUnneeded stanza (keeps_by rules current es) n) a b
      → ((stanza : Text) → prefix ≡ prefix_of stanza → (n : Name) → (u : IsUnneeded stanza (keeps_by rules current es) n) → u.id ≡ id → IsAbsent b.view.now n) → GoneEach prefix rules current es all (id ∷ rest) a.view.now → GoneEach prefix rules current es all rest b.view.now
  each_next id rest a b takes one gone stanza prefix_is n u at = ⊎_elim
      (λ absent. inl (absent_stays (Unneeds prefix rules current es) a b n takes absent))
      (λ j. ⊎_elim (λ (e : u.id ≡ id). inl (one stanza prefix_is n u e)) (λ k. inr k) j)
      (gone stanza prefix_is n u at)

-- the ids to come
pub ahead_of : (history : List ClusterId) (i : ℕ) (none : ClusterId) (id : ArchiveId) → i < length history → id ≡ id_in (get_or history i none) → ids_in (drop i history) ≡ id ∷ ids_in (drop (i + 1) history)
ahead_of history i none id low is =
    let one : suc i ≡ i + 1 = omega arith in
    ap ids_in (drop-cons history i none low ∙ ap (λ (k : ℕ). get_or history i none ∷ drop k history) one) ∙ ap (λ (x : ArchiveId). x ∷ ids_in (drop (i + 1) history)) (sym is)

-- ---- one name

-- what a path states that is read is of one file
pub known_apart : (stanza prefix path : Text) (id : ArchiveId) (name : ArchiveName) (known : Option Text) (kept : KeptFiles) → prefix ≡ prefix_of stanza → IsReadAs (below_folder prefix id) path name known → ((sum : Text) → IsSum sum → IsArchivePlace id name sum)
    → IsForgotten stanza kept path → (id ≡ kept.id) × (keeps_file (keeping_known kept) name ≡ false)
known_apart stanza prefix path id name known kept prefix_is read fits h =
    let (sum, is_sum, is, at) = read in
    let who = one_name stanza id kept.id name h.file sum h.sum (fits sum is_sum) h.fits (sym (below_is prefix_is id name sum) ∙ sym is ∙ h.is) in
    (who.0, ap (keeps_file (keeping_known kept)) who.1 ∙ h.not_kept)
  where
    below_is : prefix ≡ prefix_of stanza → (id : ArchiveId) (name : ArchiveName) (sum : Text) → below_folder prefix id name sum ≡ archive_folder stanza ⫽ id_text id ⫽ archive_text name (sum_text sum)
    below_is prefix_is id name sum = ap (λ (t : Text). t ++ (id_text id ⫽ archive_text name (sum_text sum))) prefix_is ∙ append_assoc (archive_folder stanza) (47 ∷ []) (id_text id ⫽ archive_text name (sum_text sum))

-- a path of a file that isn't kept
pub known_forgets : (prefix path : Text) (id : ArchiveId) (name : ArchiveName) (known : Option Text) (kept : KeptFiles) → IsReadAs (below_folder prefix id) path name known → ((sum : Text) → IsSum sum → IsArchivePlace id name sum)
    → id ≡ kept.id → keeps_file (keeping_known kept) name ≡ false → Forgets prefix kept path
known_forgets prefix path id name known kept read fits same off stanza prefix_is =
    let (sum, is_sum, is, at) = read in
    record {
      file = name;
      sum = sum;
      fits = subst (λ (i : ArchiveId). IsArchivePlace i name sum) same (fits sum is_sum);
      is = is ∙ ap (λ (i : ArchiveId). below_folder prefix i name sum) same ∙ ap (λ (t : Text). t ++ (id_text kept.id ⫽ archive_text name (sum_text sum))) prefix_is ∙ append_assoc (archive_folder stanza) (47 ∷ []) (id_text kept.id ⫽ archive_text name (sum_text sum));
      not_kept = off;
    }
