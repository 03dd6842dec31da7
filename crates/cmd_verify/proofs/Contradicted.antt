-- Contradictions, judged.
use Rattle.std.proofs.Common.{◌≡◌, ◌≢◌, ◌⊎◌, ⊎_elim, inl, inr, ℕ, ◌+◌, ◌<◌, ◌≤◌, true, List, [], ◌∷◌, ◌++◌, length, map, take, get_or, Option, Some, None, refl, sym, ap, ◌∙◌, subst, append_assoc}
use Rattle.std.specs.Prelude.{string_bytes}
use Rattle.std.proofs.lemmas.Bool.{and_parts}
use Rattle.std.proofs.lemmas.List.{take_more, take_all, map-append}
use Rattle.base_devices.specs.Content.{Content}
use Rattle.base_devices.specs.Order.{is_before, are_after, are_in_order}
use Rattle.base_model.specs.declared.clusters.ArchiveInfo.{ArchiveInfo as RustArchive}
use Rattle.base_model.specs.declared.clusters.BackupInfo.{BackupInfo as RustBackup}
use Rattle.base_model.specs.declared.clusters.ClusterId.{ClusterId}
use Rattle.base_model.specs.declared.labels.Label.{Label}
use Rattle.base_model.specs.declared.wal.ArchiveId.{ArchiveId}
use Rattle.base_model.specs.InfoFiles.{IsArchiveText, IsBackupText}
use Rattle.base_model.specs.Names.{archive_folder, archive_info, backup_info, label_text}
use Rattle.base_model.specs.Pair.{PairIs}
use Rattle.base_model.specs.Text.{Text, In}
use Rattle.base_model.specs.Values.{ArchiveInfo, BackupInfo, Entry, archive_info_of, backup_info_of}
use Rattle.base_model.proofs.Pushed.{in_either}
use Rattle.archive_lookup.specs.declared.stored.files.Stored.{Stored}
use Rattle.archive_lookup.specs.Stored.{AreStored, archive_path}
use Rattle.archive_lookup.proofs.OnePath.{one_path}
use Rattle.archive_lookup.proofs.Orders.{not_itself}
use Rattle.archive_lookup.proofs.Picked.{each_after}
use Rattle.base_model.specs.Fields.{at_number}
use Rattle.repo_stanza.specs.declared.fault.StanzaFault.{StanzaFault}
use Rattle.repo_stanza.specs.Judging.{Validates, As, Without, ShowsDifference}
use Rattle.repo_stanza.specs.Pairs.{AreTogether, HavePairs}
use Rattle.cmd_verify.specs.declared.findings.finding.Finding.{Finding}
use Rattle.cmd_verify.specs.Adding.{Adds, OfSome}
use Rattle.cmd_verify.specs.Contradicting.{IsOutsideOf}
use Rattle.cmd_verify.specs.Contradictions.{IsAt, HasId, IsOutside, HistoriesContradict, FileContradicts}
use Rattle.cmd_verify.specs.Members.{ValueSo}
use Rattle.cmd_verify.specs.What.{What, Shows, Contradicts, HistoriesDiffer}
use Rattle.cmd_verify.proofs.Adding.{adds_one, adds_none, adds_as, adds_next}
use Rattle.cmd_verify.proofs.Sound.{one_value}
use Rattle.cmd_verify.proofs.Values.{IsOfOne, value_of, is_some}

-- ---- one name

module _ (at : Text) (way : What) (P : Type 0) where
  pub at_known : (a b : List Finding) (x : Finding) → P → Shows x at way → b ≡ a ++ x ∷ [] → Adds (IsAt at way P) a b
  at_known a b x holds shows grown = subst (λ (c : List Finding). Adds (IsAt at way P) a c) (sym grown)
      (adds_one (IsAt at way P) a x at way (refl, refl, holds) shows (λ n w d. (d.0, d.1)))

  pub at_none : (a : List Finding) → ¬ P → Adds (IsAt at way P) a a
  at_none a none = adds_none (IsAt at way P) a (λ n w d. none d.2)

-- the same by another fact
pub at_as : (at : Text) (way : What) (P Q : Type 0) → (P → Q) → (Q → P) → (a b : List Finding) → Adds (IsAt at way P) a b → Adds (IsAt at way Q) a b
at_as at way P Q to back a b p = adds_as (IsAt at way P) (IsAt at way Q) a b (λ n w d. (d.0, d.1, to d.2)) (λ n w d. (d.0, d.1, back d.2)) p

pub shown_at : (x : Finding) (n at : Text) (way : What) → n ≡ at → Shows x n way → Shows x at way
shown_at x n at way is shows = subst (λ (t : Text). Shows x t way) is shows

-- ---- the histories of two values

pub validated : (a : ArchiveInfo) (b w : BackupInfo) → Validates a b w → AreTogether a b
validated a b w (As same is) = inl same
validated a b w (Without pending is) = inr pending

pub differing : (a : ArchiveInfo) (b : BackupInfo) (e : StanzaFault) → ShowsDifference a b e → ¬ AreTogether a b
differing a b e d (inl same) = let first = d.differ in first.here (ap (at_number d.at) same)
differing a b e d (inr pending) = d.settled pending

-- ---- a loop that searches a list

-- one of the list is so
abbrev pub HasOne : {X : Type 0} → (X → Type 0) → List X → Type 0
HasOne {X} P xs = (x : X) × In x xs × P x

pub none_of_none : {X : Type 0} (P : X → Type 0) → ¬ HasOne P []
none_of_none P h = absurd h.1

-- none of those before is, and not this one
pub one_more_not : {X : Type 0} (P : X → Type 0) (xs : List X) (i : ℕ) (x : X) → i < length xs → x ≡ get_or xs i x → ¬ HasOne P (take i xs) → ¬ P x → ¬ HasOne P (take (i + 1) xs)
one_more_not {X} P xs i x lt is none other h =
    let more = ap (λ (z : X). take i xs ++ z ∷ []) is ∙ sym (take_more xs i x lt) in
    ⊎_elim (λ at. none (h.0, at, h.2)) (λ (e : h.0 ≡ x). other (subst P e h.2)) (in_either h.0 x (take i xs) (subst (λ (ys : List X). In h.0 ys) (sym more) h.1))

-- and of what a function makes of them
pub made_more_not : {X Y : Type 0} (h : X → Y) (P : Y → Type 0) (xs : List X) (i : ℕ) (x : X) → i < length xs → x ≡ get_or xs i x → ¬ HasOne P (map h (take i xs)) → ¬ P (h x) → ¬ HasOne P (map h (take (i + 1) xs))
made_more_not {X} {Y} h P xs i x lt is none other k =
    let more : map h (take i xs) ++ h x ∷ [] ≡ map h (take (i + 1) xs) = sym (map-append h (take i xs) (x ∷ [])) ∙ ap (λ (z : X). map h (take i xs ++ z ∷ [])) is ∙ sym (ap (map h) (take_more xs i x lt)) in
    ⊎_elim (λ at. none (k.0, at, k.2)) (λ (e : k.0 ≡ h x). other (subst P e k.2)) (in_either k.0 (h x) (map h (take i xs)) (subst (λ (ys : List Y). In k.0 ys) (sym more) k.1))

pub not_at_all : {X : Type 0} (P : X → Type 0) (xs : List X) (i : ℕ) → length xs ≤ i → ¬ HasOne P (take i xs) → ¬ HasOne P xs
not_at_all {X} P xs i all none = subst (λ (ys : List X). ¬ HasOne P ys) (take_all i xs all) none

pub not_made_at_all : {X Y : Type 0} (h : X → Y) (P : Y → Type 0) (xs : List X) (i : ℕ) → length xs ≤ i → ¬ HasOne P (map h (take i xs)) → ¬ HasOne P (map h xs)
not_made_at_all {X} h P xs i all none = subst (λ (ys : List X). ¬ HasOne P (map h ys)) (take_all i xs all) none

-- ---- a loop that reports them

pub each_none : {X : Type 0} (Q : X → Text → What → Type 0) (a : List Finding) → Adds (OfSome Q []) a a
each_none Q a = adds_none (OfSome Q []) a (λ n w h. absurd h.1)

pub each_next : {X : Type 0} (Q : X → Text → What → Type 0) (xs : List X) (i : ℕ) (x : X) (a b c : List Finding) → i < length xs → x ≡ get_or xs i x → Adds (OfSome Q (take i xs)) a b → Adds (Q x) b c → Adds (OfSome Q (take (i + 1) xs)) a c
each_next {X} Q xs i x a b c lt is p q =
    subst (λ (ys : List X). Adds (OfSome Q ys) a c) (ap (λ (z : X). take i xs ++ z ∷ []) is ∙ sym (take_more xs i x lt)) (adds_next Q (take i xs) x a b c p q)

pub each_all : {X : Type 0} (Q : X → Text → What → Type 0) (xs : List X) (i : ℕ) (a b : List Finding) → length xs ≤ i → Adds (OfSome Q (take i xs)) a b → Adds (OfSome Q xs) a b
each_all {X} Q xs i a b all p = subst (λ (ys : List X). Adds (OfSome Q ys) a b) (take_all i xs all) p

pub made_next : {X Y : Type 0} (h : X → Y) (Q : Y → Text → What → Type 0) (xs : List X) (i : ℕ) (x : X) (a b c : List Finding) → i < length xs → x ≡ get_or xs i x → Adds (OfSome Q (map h (take i xs))) a b → Adds (Q (h x)) b c
    → Adds (OfSome Q (map h (take (i + 1) xs))) a c
made_next {X} {Y} h Q xs i x a b c lt is p q =
    let more : map h (take i xs) ++ h x ∷ [] ≡ map h (take (i + 1) xs) = sym (map-append h (take i xs) (x ∷ [])) ∙ ap (λ (z : X). map h (take i xs ++ z ∷ [])) is ∙ sym (ap (map h) (take_more xs i x lt)) in
    subst (λ (ys : List Y). Adds (OfSome Q ys) a c) more (adds_next Q (map h (take i xs)) (h x) a b c p q)

pub made_all : {X Y : Type 0} (h : X → Y) (Q : Y → Text → What → Type 0) (xs : List X) (i : ℕ) (a b : List Finding) → length xs ≤ i → Adds (OfSome Q (map h (take i xs))) a b → Adds (OfSome Q (map h xs)) a b
made_all {X} h Q xs i a b all p = subst (λ (ys : List X). Adds (OfSome Q (map h ys)) a b) (take_all i xs all) p

-- ---- the archive's names

module _ (stanza : Text) (f : Content) (files : List Stored) (are : AreStored stanza f files) where
  outside_file : (history : List ClusterId) (file : Stored) → In file files → ¬ HasId history file.id → (n : Text) → n ≡ string_bytes file.path → IsOutside stanza f history n
  outside_file history file at none n is =
      let st = are.each file at in
      let b = value_of (λ bytes. length bytes ≡ file.size) (f (string_bytes file.path)) st.size in
      record { id = file.id; file = file.name; sum = st.sum; fits = st.fits; is = is ∙ st.path; there = is_some (f n) b.0 (ap f is ∙ b.1); none = none }

  file_outside : (history : List ClusterId) (n : Text) → IsOutside stanza f history n → (file : Stored) × In file files × (n ≡ string_bytes file.path) × ¬ HasId history file.id
  file_outside history n d =
      let x = are.all n (record { id = d.id; file = d.file; sum = d.sum; fits = d.fits; is = d.is }) d.there in
      let file = x.0 in
      let st = are.each file x.1 in
      let path : archive_path stanza file.id file.name st.sum ≡ archive_path stanza d.id d.file d.sum = sym st.path ∙ x.2 ∙ d.is in
      let same = one_path (archive_folder stanza ++ 47 ∷ []) file.id d.id file.name d.file st.sum d.sum st.fits d.fits
      (append_assoc (archive_folder stanza) (47 ∷ []) _ ∙ path ∙ sym (append_assoc (archive_folder stanza) (47 ∷ []) _)) in
      (file, x.1, sym x.2, λ has. d.none (subst (λ (i : ArchiveId). HasId history i) same.0 has))

  module _ (a : ArchiveInfo) (pair : PairIs IsArchiveText f (archive_info stanza) a) (one : IsOfOne IsArchiveText) where
    pub outside_add : (old new : List Finding) → Adds (OfSome (IsOutsideOf a.history) files) old new → Adds (FileContradicts stanza f) old new
    outside_add old new p = adds_as (OfSome (IsOutsideOf a.history) files) (FileContradicts stanza f) old new
        (λ n w h. let d = h.2 in (d.1, (a, pair, outside_file a.history h.0 h.1 d.2 n d.0)))
        (λ n w h.
        let d = h.1 in
        let same : d.0 ≡ a = one_value IsArchiveText f (archive_info stanza) one d.0 a d.1 pair in
        let x = file_outside a.history n (subst (λ (v : ArchiveInfo). IsOutside stanza f v.history n) same d.2) in
        (x.0, x.1, (x.2, h.0, x.3)))
        p

pub outside_known : (archive : Option RustArchive) (a : RustArchive) → archive ≡ Some a → (files : List Stored) (history : List ClusterId) → history ≡ a.history.items → IsOfOne IsArchiveText → (old new : List Finding)
    → Adds (OfSome (IsOutsideOf history) files) old new → (stanza : Text) (f : Content) → ValueSo IsArchiveText archive_info_of f (archive_info stanza) archive → AreStored stanza f files → Adds (FileContradicts stanza f) old new
outside_known archive a is files history same one old new p stanza f value are =
    outside_add stanza f files are (archive_info_of a) (subst (λ (v : Option RustArchive). ValueSo IsArchiveText archive_info_of f (archive_info stanza) v) is value) one old new
    (subst (λ (h : List ClusterId). Adds (OfSome (IsOutsideOf h) files) old new) same p)

pub outside_none : (archive : Option RustArchive) → archive ≡ None → (files : List Stored) (old : List Finding) (stanza : Text) (f : Content) → ValueSo IsArchiveText archive_info_of f (archive_info stanza) archive → AreStored stanza f files
    → Adds (FileContradicts stanza f) old old
outside_none archive is files old stanza f value are =
    let none = subst (λ (v : Option RustArchive). ValueSo IsArchiveText archive_info_of f (archive_info stanza) v) is value in
    adds_none (FileContradicts stanza f) old (λ n w h. let d = h.1 in none d.0 d.1)

-- ---- the histories

module _ (stanza : Text) (f : Content) (archive : Option RustArchive) (backup : Option RustBackup)
    (value : ValueSo IsArchiveText archive_info_of f (archive_info stanza) archive) (list : ValueSo IsBackupText backup_info_of f (backup_info stanza) backup) where
  abbrev Apart : Type 0
  Apart = (a : ArchiveInfo) × (b : BackupInfo) × HavePairs stanza f a b × ¬ AreTogether a b

  pub histories_alone : (archive ≡ None) ⊎ (backup ≡ None) → (old : List Finding) → Adds (HistoriesContradict stanza f) old old
  histories_alone none old = at_none (backup_info stanza) (Contradicts HistoriesDiffer) Apart old (λ d. by d none)
    where
      by : Apart → (archive ≡ None) ⊎ (backup ≡ None) → ⊥
      by d (inl e) = let pairs = d.2 in subst (λ (v : Option RustArchive). ValueSo IsArchiveText archive_info_of f (archive_info stanza) v) e value d.0 pairs.archive
      by d (inr e) = let pairs = d.2 in subst (λ (v : Option RustBackup). ValueSo IsBackupText backup_info_of f (backup_info stanza) v) e list d.1 pairs.backup

  pub histories_read : IsOfOne IsArchiveText → IsOfOne IsBackupText → (a : RustArchive) (b : RustBackup) → archive ≡ Some a → backup ≡ Some b → (name : Text) → name ≡ backup_info stanza → (old new : List Finding)
      → Adds (IsAt name (Contradicts HistoriesDiffer) (¬ AreTogether (archive_info_of a) (backup_info_of b))) old new → Adds (HistoriesContradict stanza f) old new
  histories_read one also a b is_a is_b name at old new p =
      let pa : PairIs IsArchiveText f (archive_info stanza) (archive_info_of a) = subst (λ (v : Option RustArchive). ValueSo IsArchiveText archive_info_of f (archive_info stanza) v) is_a value in
      let pb : PairIs IsBackupText f (backup_info stanza) (backup_info_of b) = subst (λ (v : Option RustBackup). ValueSo IsBackupText backup_info_of f (backup_info stanza) v) is_b list in
      subst (λ (n : Text). Adds (IsAt n (Contradicts HistoriesDiffer) Apart) old new) at
      (at_as name (Contradicts HistoriesDiffer) (¬ AreTogether (archive_info_of a) (backup_info_of b)) Apart
      (λ apart. (archive_info_of a, backup_info_of b, record { archive = pa; backup = pb }, apart))
      (λ d t.
      let pairs = d.2 in
      let same_a : d.0 ≡ archive_info_of a = one_value IsArchiveText f (archive_info stanza) one d.0 (archive_info_of a) pairs.archive pa in
      let same_b : d.1 ≡ backup_info_of b = one_value IsBackupText f (backup_info stanza) also d.1 (backup_info_of b) pairs.backup pb in
      d.3 (subst (λ (v : ArchiveInfo). AreTogether v d.1) (sym same_a) (subst (λ (v : BackupInfo). AreTogether (archive_info_of a) v) (sym same_b) t)))
      old new p)

-- ---- the list

-- in a list that keeps its rules each label is there once
after_apart : (e : Entry) (es : List Entry) → are_in_order (map (λ (x : Entry). label_text x.label) (e ∷ es)) ≡ true → (x : Entry) → In x es → e.label ≢ x.label
after_apart e es order x at same =
    let before = each_after (λ (y : Entry). label_text y.label) (label_text e.label) es order x at in
    not_itself (label_text e.label) (subst (λ (l : Label). is_before (label_text e.label) (label_text l) ≡ true) (sym same) before)

rest_order : (e : Entry) (es : List Entry) → are_in_order (map (λ (x : Entry). label_text x.label) (e ∷ es)) ≡ true → are_in_order (map (λ (x : Entry). label_text x.label) es) ≡ true
rest_order e [] h = refl
rest_order e (x ∷ xs) h = (and_parts (is_before (label_text e.label) (label_text x.label)) (are_after (label_text x.label) (map (λ (y : Entry). label_text y.label) xs)) h).1

pub one_entry : (es : List Entry) → are_in_order (map (λ (x : Entry). label_text x.label) es) ≡ true → (p q : Entry) → In p es → In q es → p.label ≡ q.label → p ≡ q
one_entry [] order p q at also same = absurd at
one_entry (e ∷ es) order p q (inl i) (inl j) same = i ∙ sym j
one_entry (e ∷ es) order p q (inl i) (inr j) same = absurd (after_apart e es order q j (sym (ap (λ (x : Entry). x.label) i) ∙ same))
one_entry (e ∷ es) order p q (inr i) (inl j) same = absurd (after_apart e es order p i (sym (ap (λ (x : Entry). x.label) j) ∙ sym same))
one_entry (e ∷ es) order p q (inr i) (inr j) same = one_entry es (rest_order e es order) p q i j same
