-- A whole restore: the control file besides all else.
use Rattle.std.proofs.Common.{ℕ, zero, suc, get_or, ◌||◌, Contains, Bool, true, false, ◌≡◌, ◌≢◌, ◌⊎◌, inl, inr, ⊎_elim, ◌<◌, ◌&&◌, refl, sym, ap, ◌∙◌, subst, arith, List, [], ◌∷◌, length, map, Option, Some, None, option_map, bytes_eq, not}
use Rattle.std.specs.Prelude.{IfSome, ◌==◌, Result, Ok, Err, OnOk, OnErr}
use Rattle.std.specs.List.{list_any}
use Rattle.std.proofs.lemmas.Bool.Decides.{nat_tests}
use Rattle.std.proofs.lemmas.Slice.Eq.{bytes_eq-Decides}
use Rattle.base_devices.specs.Content.{at, SameBut}
use Rattle.base_devices.specs.Links.{LinkState}
use Rattle.base_devices.specs.States.{DataFolderState}
use Rattle.base_devices.specs.declared.data_folder.Node.{Node}
use Rattle.base_devices.specs.DataFolder.{Nodes, Held, file, folder, link, other, shown, file_bytes, with_node, RemovesSynced, IsTreeListing}
use Rattle.base_model.specs.declared.labels.Label.{Label}
use Rattle.restore_make.specs.Recovered.{LogFetch, Recovery, conf_path, signal_path}
use Rattle.restore_make.specs.Recovered.Recovery.{FromArchive, Nothing}
use Rattle.base_model.specs.Text.{Text, In}
use Rattle.base_model.specs.Values.{FileEntry, Manifest}
use Rattle.base_model.specs.ManifestText.{IsManifest}
use Rattle.worker_pool.specs.declared.dispatch.fault.Lost.{Lost}
use Rattle.restore_steps.specs.Files.{temporary_path}
use Rattle.restore_steps.specs.Clearing.{control_path, is_bare, HasNone}
use Rattle.restore_steps.proofs.Nodes.{set_other, set_same}
use Rattle.restore_steps.proofs.Ordered.{one_name}
use Rattle.restore_make.specs.Listed.{is_folder, is_control_node, IsListedBut, IsPlain}
use Rattle.restore_make.specs.Options.{Options, is_added}
use Rattle.restore_make.specs.Kept.{marked, IsKept}
use Rattle.restore_make.specs.Settings.{HasAdded}
use Rattle.restore_make.specs.Restorations.{StopsSafely}
use Rattle.restore_make.specs.Finished.{waiting_path, HasEntry, IsAway, HasCome, IsMarked}
use Rattle.worker_pool.specs.Left.{IsLeft}
use Rattle.restore_make.proofs.Links.{read_before}
use Rattle.restore_make.proofs.Names.{lasts, conf_lasts, signal_lasts, conf_off, signal_off, other_path, own_temporary}
use Rattle.restore_make.proofs.Plain.{path_in, known}
use Rattle.restore_make.proofs.ReadEntries.{is_false, both, ordinary_by, ordinary_off, in_marked, marked_in}

no_size : (n : ℕ) → (0 < n) ⊎ (n ≡ 0)
no_size n = grind arith

-- the same node at its path
pub kept_moved : (links : List LinkState) (o : Options) (e : FileEntry) (old : Option Nodes) (f g : Nodes) → IsKept links o e old f → g e.path ≡ f e.path → IsKept links o e old g
kept_moved links o e old f g x same = record {
  delta = x.delta;
  ordinary = x.ordinary;
  bytes = x.bytes;
  was = x.was;
  is = same ∙ x.is;
  size = x.size;
  digested = x.digested;
}

pub added_moved : (stanza : Text) (own : Label) (links : List LinkState) (es : List FileEntry) (r : Recovery) (f g : Nodes) → HasAdded stanza own links es r f → g conf_path ≡ f conf_path → ((fetch : LogFetch) → g (signal_path fetch) ≡ f (signal_path fetch)) → HasAdded stanza own links es r g
added_moved stanza own links es Nothing f g x conf signal = tt
added_moved stanza own links es (FromArchive fetch) f g x conf signal = record { held = x.held; was = x.was; conf = (x.conf.0, conf ∙ x.conf.1); signal = (x.signal.0, signal fetch ∙ x.signal.1) }

module _ (stanza : Text) (links : List LinkState) (o : Options) (m : Manifest) (marks : List Bool) (start : Option Nodes) (rules : IsManifest m) where
  bare_is : (e : FileEntry) → e.size ≡ 0 → e.path ≢ control_path → is_bare e ≡ true
  bare_is e none off = both (e.size == 0) (not (bytes_eq e.path control_path)) (grind (arith, nat_tests, none)) (is_false (bytes_eq e.path control_path) (λ t. off ((bytes_eq-Decides e.path control_path).0 t)))

  -- an entry that isn't the control file's
  plain_entry : (f g : Nodes) → IsPlain stanza links o m marks start o.recovery f → (e : FileEntry) → In e m.files → e.path ≢ control_path → is_added o.recovery e.path ≡ false → g e.path ≡ f e.path → HasCome stanza m.label links o e start g
  plain_entry f g plain e i off own same = ⊎_elim
      (λ (some : 0 < e.size). ⊎_elim
      (λ (kept : In (e, true) (marked m.files marks)). inr (kept_moved links o e start f g (plain.kept e kept) same))
      (λ (read : In (e, false) (marked m.files marks)). let x = plain.filled e read (ordinary_by o.recovery e some off own) in inl (record { bytes = x.bytes; file = same ∙ x.file; are = x.are; read = λ _. x.read }))
      (in_marked m.files marks e i))
      (λ (none : e.size ≡ 0). let x = plain.bare e i (bare_is e none off) own in inl (record { bytes = []; file = same ∙ x; are = (sym none, sym ((rules.files e i).empty none).0); read = λ some. absurd (omega (arith, some, none)) }))
      (no_size e.size)

  -- there is no control file to be put
  pub finished_none : ((e : FileEntry) → In e m.files → e.path ≢ control_path) → (x : Option Nodes) → IfSome x (IsPlain stanza links o m marks start o.recovery) → IfSome x (IsMarked stanza links o m marks start)
  finished_none none None plain = tt
  finished_none none (Some f) plain = record {
    file = λ e i own. plain_entry f f plain e i (none e i) own refl;
    kept = plain.kept;
    settings = plain.settings;
    folder = plain.folder;
    nothing = λ p off apart own. plain.nothing p off (λ e i _. apart e i) own;
  }

  module _ (c : FileEntry) (listed : In c m.files) (at_control : c.path ≡ control_path) (f g : Nodes) (plain : IsPlain stanza links o m marks start o.recovery f)
      (put : HasEntry stanza m.label links c control_path g) (waiting : g waiting_path ≡ None) (clean : g (temporary_path waiting_path) ≡ None)
      (others : (q : Text) → q ≢ control_path → q ≢ waiting_path → q ≢ temporary_path waiting_path → g q ≡ f q) where
    by_path : (e : FileEntry) → In e m.files → is_added o.recovery e.path ≡ false → (b : Bool) → bytes_eq e.path control_path ≡ b → HasCome stanza m.label links o e start g
    by_path e i own true is =
        let same : c ≡ e = one_name (λ (x : FileEntry). x.path) m.files c e rules.file_order listed i (at_control ∙ sym ((bytes_eq-Decides e.path control_path).0 is)) in
        inl (subst (λ (x : FileEntry). HasEntry stanza m.label links x x.path g) same (subst (λ (p : Text). HasEntry stanza m.label links c p g) (sym at_control) put))
    by_path e i own false is =
        let off : e.path ≢ control_path = other_path e.path control_path is in
        plain_entry f g plain e i off own (others e.path off (lasts control_path e.path ((rules.files e i).lasting)) (lasts waiting_path e.path ((rules.files e i).lasting)))

    kept_still : (e : FileEntry) → In (e, true) (marked m.files marks) → IsKept links o e start g
    kept_still e i =
        let x = plain.kept e i in
        let off = ordinary_off o.recovery e x.ordinary in
        let lasting = (rules.files e (marked_in m.files marks (e, true) i)).lasting in
        kept_moved links o e start f g x (others e.path off (lasts control_path e.path lasting) (lasts waiting_path e.path lasting))

    folder_still : (p : Text) → In p m.folders → g p ≡ Some folder
    folder_still p i =
        others p (λ is. rules.apart p (subst (λ (q : Text). In q (map (λ (x : FileEntry). x.path) m.files)) (at_control ∙ sym is) (path_in m.files c listed)) i)
        (lasts control_path p ((rules.folders p i).lasting)) (lasts waiting_path p ((rules.folders p i).lasting))
        ∙ plain.folder p i

    nothing_else : (p : Text) → ¬ In p m.folders → ((e : FileEntry) → In e m.files → p ≢ e.path) → is_added o.recovery p ≡ false → (a b : Bool) → bytes_eq p waiting_path ≡ a → bytes_eq p (temporary_path waiting_path) ≡ b → g p ≡ None
    nothing_else p off apart own true b is its = ap g ((bytes_eq-Decides p waiting_path).0 is) ∙ waiting
    nothing_else p off apart own false true is its = ap g ((bytes_eq-Decides p (temporary_path waiting_path)).0 its) ∙ clean
    nothing_else p off apart own false false is its =
        others p (λ h. apart c listed (h ∙ sym at_control)) (other_path p waiting_path is) (other_path p (temporary_path waiting_path) its)
        ∙ plain.nothing p off (λ e i _. apart e i) own

    finished : IsMarked stanza links o m marks start g
    finished = record {
      file = λ e i own. by_path e i own (bytes_eq e.path control_path) refl;
      kept = kept_still;
      settings = added_moved stanza m.label links m.files o.recovery f g plain.settings
          (others conf_path conf_off (conf_lasts control_path) (conf_lasts waiting_path))
          (λ fetch. others (signal_path fetch) (signal_off fetch) (signal_lasts fetch control_path) (signal_lasts fetch waiting_path));
      folder = folder_still;
      nothing = λ p off apart own. nothing_else p off apart own (bytes_eq p waiting_path) (bytes_eq p (temporary_path waiting_path)) refl refl;
    }

  -- what waits is no file or folder of a manifest
  temp_free : (f : Nodes) → IsPlain stanza links o m marks start o.recovery f → (p : Text) → f (temporary_path p) ≡ None
  temp_free f plain p = plain.nothing (temporary_path p)
      (λ i. lasts p (temporary_path p) ((rules.folders (temporary_path p) i).lasting) refl)
      (λ e i _ is. lasts p e.path ((rules.files e i).lasting) (sym is))
      (own_temporary o.recovery p)

  -- with the control file put in its place
  pub put_finishes : (c : FileEntry) → In c m.files → c.path ≡ control_path → (old new : Option Nodes)
      → IfSome new (HasEntry stanza m.label links c control_path) → IsAway waiting_path new → (IsAway (temporary_path waiting_path) old → IsAway (temporary_path waiting_path) new)
      → ((q : Text) → q ≢ control_path → q ≢ waiting_path → q ≢ temporary_path waiting_path → at q new ≡ at q old) → IfSome old (IsPlain stanza links o m marks start o.recovery) → IfSome new (IsMarked stanza links o m marks start)
  put_finishes c listed at_control old None put waiting clean others plain = tt
  put_finishes c listed at_control None (Some g) put waiting clean others plain =
      let h : ◌≡◌ {A = Option (Option Held)} (Some (g [])) None = others [] (λ e. cc) (λ e. cc) (λ e. cc) in cc
  put_finishes c listed at_control (Some f) (Some g) put waiting clean others plain =
      finished c listed at_control f g plain put waiting (clean (temp_free f plain waiting_path)) (λ q a b d. known q f g (others q a b d))

-- by links that are left
entry_before : (stanza : Text) (links now : List LinkState) (before after : List Lost) (m : Manifest) (f : Nodes) → IsLeft links now before after → (e : FileEntry) (p : Text) → HasEntry stanza m.label now e p f → HasEntry stanza m.label links e p f
entry_before stanza links now before after m f left e p h = record { bytes = h.bytes; file = h.file; are = h.are; read = λ some. read_before links now before after _ h.bytes left (h.read some) }

-- ---- the first step

any_control : (seen : List (Text × Node)) (node : Node) → list_any is_control_node seen ≡ false → Contains seen (control_path, node) → is_folder node ≡ true
any_control seen node none has = go seen has.0 none has.1 has.2
  where
    off : (b : Bool) → b && not (is_folder node) ≡ false → b ≡ true → is_folder node ≡ true
    off true e t = yes (is_folder node) e
      where
        yes : (c : Bool) → not c ≡ false → c ≡ true
        yes true f = refl
        yes false f = cc
    off false e t = cc

    both_false : (a b : Bool) → (a || b) ≡ false → (a ≡ false) × (b ≡ false)
    both_false true b e = cc
    both_false false b e = (refl, e)

    go : (ss : List (Text × Node)) (k : ℕ) → list_any is_control_node ss ≡ false → k < length ss → get_or ss k (control_path, node) ≡ (control_path, node) → is_folder node ≡ true
    go [] k f lt is = absurd (omega (arith, lt))
    go (s ∷ ss) zero f lt is = off (bytes_eq control_path control_path) (ap is_control_node (sym is) ∙ (both_false (is_control_node s) (list_any is_control_node ss) f).0) ((bytes_eq-Decides control_path control_path).1 refl)
    go (s ∷ ss) (suc k) f lt is = go ss k (both_false (is_control_node s) (list_any is_control_node ss) f).1 (omega (arith, lt)) is

no_file : (seen : List (Text × Node)) (f : Nodes) → list_any is_control_node seen ≡ false → IsTreeListing f seen → (f control_path ≡ None) ⊎ ((f control_path ≡ Some folder) × (f control_path ≡ Some folder))
no_file seen f none l = go (f control_path) refl
  where
    go : (o : Option Held) → f control_path ≡ o → (f control_path ≡ None) ⊎ ((f control_path ≡ Some folder) × (f control_path ≡ Some folder))
    go None is = inl is
    go (Some (file bytes time)) is = cc (any_control seen (shown (file bytes time)) none (l.all control_path (file bytes time) is))
    go (Some folder) is = inr (is, is)
    go (Some link) is = cc (any_control seen (shown link) none (l.all control_path link is))
    go (Some other) is = cc (any_control seen (shown other) none (l.all control_path other is))

pub any_map : {A B : Type 0} (p : B → Bool) (f : A → B) (xs : List A) → list_any p (map f xs) ≡ list_any (λ x. p (f x)) xs
any_map p f [] = refl
any_map p f (x ∷ xs) = ap (λ (b : Bool). p (f x) || b) (any_map p f xs)

-- where the listing has no control file
pub listed_none : (seen : List (Text × Node)) (o : Option Nodes) → list_any is_control_node seen ≡ false → IfSome o (λ f. IsTreeListing f seen) → IfSome o (λ f. IsListedBut f seen)
listed_none seen None none l = tt
listed_none seen (Some f) none l = record { listed = f; listing = l; others = λ q off. refl; control = no_file seen f none l }

pub none_there : (seen : List (Text × Node)) (o : Option Nodes) → list_any is_control_node seen ≡ false → IfSome o (λ f. IsTreeListing f seen) → HasNone control_path o
none_there seen None none l = tt
none_there seen (Some f) none l = ⊎_elim (λ (e : f control_path ≡ None). ap file_bytes e) (λ (h : (f control_path ≡ Some folder) × (f control_path ≡ Some folder)). ap file_bytes h.0) (no_file seen f none l)

pub but_control : {T E : Type 0} (r : Result T E) (o new : Option Nodes) → RemovesSynced r control_path o new → SameBut control_path o new
but_control r o new gone q off = by r gone
  where
    go : (y : Option Nodes) → at q (option_map (with_node control_path None) y) ≡ at q y
    go None = refl
    go (Some f) = ap (λ (v : Option Held). Some v) (set_other control_path None f q off)

    by : {A B : Type 0} (x : Result A B) → RemovesSynced x control_path o new → at q new ≡ at q o
    by (Ok x) is = ap (at q) is ∙ go o
    by (Err e) (inl is) = ap (at q) is
    by (Err e) (inr is) = ap (at q) is ∙ go o

pub listed_but : (seen : List (Text × Node)) (o new : Option Nodes) → IfSome o (λ f. IsTreeListing f seen) → new ≡ option_map (with_node control_path None) o → IfSome new (λ f. IsListedBut f seen)
listed_but seen o new listing is = subst (λ (x : Option Nodes). IfSome x (λ f. IsListedBut f seen)) (sym is) (go o listing)
  where
    go : (x : Option Nodes) → IfSome x (λ f. IsTreeListing f seen) → IfSome (option_map (with_node control_path None) x) (λ f. IsListedBut f seen)
    go None l = tt
    go (Some f) l = record { listed = f; listing = l; others = λ q off. set_other control_path None f q off; control = inl (set_same control_path None f) }

pub none_after : (o new : Option Nodes) → new ≡ option_map (with_node control_path None) o → HasNone control_path new
none_after o new is = subst (HasNone control_path) (sym is) (go o)
  where
    go : (x : Option Nodes) → HasNone control_path (option_map (with_node control_path None) x)
    go None = tt
    go (Some f) = ap file_bytes (set_same control_path None f)

-- ---- results

pub on_removed : {A E : Type 0} (r : Result A E) (P : Type 0) (old new : Option Nodes) → RemovesSynced r control_path old new → (new ≡ option_map (with_node control_path None) old → P) → OnOk r P
on_removed (Ok x) P old new h to = to h
on_removed (Err e) P old new h to = tt

pub stops_safely : {A E : Type 0} (r : Result A E) (old new : DataFolderState) → RemovesSynced r control_path old.nodes new.nodes → OnErr r (StopsSafely old new)
stops_safely (Ok x) old new h = tt
stops_safely (Err e) old new (inl is) = inl is
stops_safely (Err e) old new (inr is) = inr (none_after old.nodes new.nodes is)

pub on_ok_three : {A E : Type 0} (r : Result A E) (P Q R S : Type 0) → (P → Q → R → S) → OnOk r P → OnOk r Q → OnOk r R → OnOk r S
on_ok_three (Ok x) P Q R S to p q s = to p q s
on_ok_three (Err e) P Q R S to p q s = tt

pub some_before : (stanza : Text) (links now : List LinkState) (before after : List Lost) (m : Manifest) (o : Option Nodes) → IsLeft links now before after → (e : FileEntry) (p : Text) → IfSome o (HasEntry stanza m.label now e p) → IfSome o (HasEntry stanza m.label links e p)
some_before stanza links now before after m None left e p h = tt
some_before stanza links now before after m (Some f) left e p h = entry_before stanza links now before after m f left e p h
