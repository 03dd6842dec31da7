-- From a listed tree to a plain restore, step by step.
use Rattle.std.proofs.Common.{ℕ, zero, suc, Bool, true, false, not, ◌≡◌, ◌≢◌, ◌⊎◌, inl, inr, ⊎_elim, ◌<◌, ◌&&◌, ◌||◌, refl, sym, ap, ◌∙◌, subst, arith, List, [], ◌∷◌, map, Option, Some, None, option_map, bytes_eq, cond}
use Rattle.std.specs.Prelude.{IfSome, IsSome, codes, ◌==◌}
use Rattle.std.specs.List.{list_any}
use Rattle.std.proofs.lemmas.Grind.{common_steps}
use Rattle.std.proofs.lemmas.Bool.{and_parts}
use Rattle.std.proofs.lemmas.Slice.Eq.{bytes_eq-Decides}
use Rattle.std.proofs.lemmas.Bool.Decides.{nat_tests}
use Rattle.base_devices.specs.Content.{at}
use Rattle.base_devices.specs.Crash.{IsTemporary}
use Rattle.base_devices.specs.Links.{LinkState}
use Rattle.base_devices.specs.declared.data_folder.Node.{Node}
use Rattle.base_devices.specs.declared.data_folder.Node.TheVariants.{File}
use Rattle.base_devices.specs.DataFolder.{Nodes, Held, file, folder, link, other, shown, file_bytes, with_time}
use Rattle.restore_make.specs.Recovered.Recovery.{Nothing}
use Rattle.base_model.specs.Text.{Text, In}
use Rattle.base_model.specs.Values.{FileEntry, Manifest}
use Rattle.base_model.specs.ManifestText.{IsManifest, IsFileEntry, IsFolder}
use Rattle.restore_steps.specs.Files.{temporary_path}
use Rattle.restore_steps.specs.Clearing.{control_path, HasTimed, is_bare, Bares, has_path, stays, without, left_at, with_folders}
use Rattle.restore_make.specs.Options.{Options, is_ordinary}
use Rattle.restore_make.specs.Entries.{IsFilled, Fills}
use Rattle.restore_make.specs.Kept.{marked, IsShown, IsAlike, AllAlike, IsKept}
use Rattle.restore_make.specs.KeptTimes.{SetsTimes}
use Rattle.restore_make.specs.Listed.{IsListedBut, IsPlain}
use Rattle.restore_make.proofs.Names.{lasts}
use Rattle.restore_make.proofs.Shown.{in_contains}
use Rattle.restore_make.proofs.ReadEntries.{not_true, is_false, ordinary_off, one_mark}
use Rattle.restore_steps.proofs.Cleared.{cleared, without_at, none_left, folder_made, folder_apart}
use Rattle.restore_steps.proofs.Ordered.{one_name}
use Rattle.restore_steps.proofs.Paths.{in_has}

-- no path of these is the one that is looked for
none_found : (ps : List Text) (q : Text) → ¬ In q ps → has_path ps q ≡ false
none_found [] q none = refl
none_found (p ∷ ps) q none = two (bytes_eq p q) (has_path ps q) (λ e. none (inl (sym ((bytes_eq-Decides p q).0 e)))) (none_found ps q (λ i. none (inr i)))
  where
    two : (a b : Bool) → (a ≡ true → ⊥) → b ≡ false → (a || b) ≡ false
    two true b never e = absurd (never refl)
    two false b never e = e

pub in_paths : (es : List FileEntry) (q : Text) → In q (map (λ (e : FileEntry). e.path) es) → (e : FileEntry) × In e es × (q ≡ e.path)
in_paths [] q i = absurd i
in_paths (e ∷ es) q (inl is) = (e, inl refl, is)
in_paths (e ∷ es) q (inr i) = let x = in_paths es q i in (x.0, inr x.1, x.2)

-- whether a path is the temporary name of one of these files
temp_of : (es : List FileEntry) (q : Text) → ((e : FileEntry) × In e es × (q ≡ temporary_path e.path)) ⊎ ((e : FileEntry) → In e es → q ≢ temporary_path e.path)
temp_of [] q = inr (λ e i. absurd i)
temp_of (e ∷ es) q = ⊎_elim
    (λ x. inl (x.0, inr x.1, x.2))
    (λ none. by (bytes_eq q (temporary_path e.path)) refl none)
    (temp_of es q)
  where
    by : (b : Bool) → bytes_eq q (temporary_path e.path) ≡ b → ((d : FileEntry) → In d es → q ≢ temporary_path d.path) → ((d : FileEntry) × In d (e ∷ es) × (q ≡ temporary_path d.path)) ⊎ ((d : FileEntry) → In d (e ∷ es) → q ≢ temporary_path d.path)
    by true is none = inl (e, inl refl, (bytes_eq-Decides q (temporary_path e.path)).0 is)
    by false is none = inr (λ d i. ⊎_elim
        (λ (same : d ≡ e). λ (at_temp : q ≡ temporary_path d.path). let h : ◌≡◌ {A = Bool} false true = sym is ∙ (bytes_eq-Decides q (temporary_path e.path)).1 (at_temp ∙ ap (λ (x : FileEntry). temporary_path x.path) same) in cc)
        (λ (later : In d es). none d later) i)

pub known : (q : Text) (f g : Nodes) → at q (Some g) ≡ at q (Some f) → g q ≡ f q
known q f g e = let h : ◌≡◌ {A = Option (Option Held)} (Some (g q)) (Some (f q)) = e in cc

true_false : true ≡ false → ⊥
true_false e = cc

bare_no_size : (e : FileEntry) → is_bare e ≡ true → 0 < e.size → ⊥
bare_no_size e bare some =
    let none : (e.size == 0) ≡ true = (and_parts (e.size == 0) (not (bytes_eq e.path control_path)) bare).0 in
    absurd (grind (arith, nat_tests))

pub bare_no_control : (e : FileEntry) → is_bare e ≡ true → e.path ≢ control_path
bare_no_control e bare is = not_true (bytes_eq e.path control_path) (and_parts (e.size == 0) (not (bytes_eq e.path control_path)) bare).1 ((bytes_eq-Decides e.path control_path).1 is)

pub path_in : (es : List FileEntry) (e : FileEntry) → In e es → In e.path (map (λ (x : FileEntry). x.path) es)
path_in [] e i = absurd i
path_in (d ∷ es) e (inl is) = inl (ap (λ (x : FileEntry). x.path) is)
path_in (d ∷ es) e (inr i) = inr (path_in es e i)

-- a listed file of the manifest is there once the folder is made ready
module _ (m : Manifest) (rules : IsManifest m) (seen : List (Text × Node)) (g : Nodes) (but : IsListedBut g seen) (h : Nodes)
    (bares : Bares m.files (Some (with_folders m.folders (without m seen g))) (Some h)) where
  listed_stays : (e : FileEntry) → In e m.files → 0 < e.size → e.path ≢ control_path → (bytes : Text) (time : ℕ) → but.listed e.path ≡ Some (file bytes time) → h e.path ≡ Some (file bytes time)
  listed_stays e i some off bytes time was =
      known e.path (with_folders m.folders (without m seen g)) h (bares.others e.path (λ d j bare is. bare_no_size d bare (subst (λ (x : FileEntry). 0 < x.size) (one_name (λ (x : FileEntry). x.path) m.files e d rules.file_order i j is) some)))
      ∙ folder_apart m.folders (without m seen g) e.path (λ f. rules.apart e.path (path_in m.files e i) f)
      ∙ without_at e.path m seen g but.listed (but.others e.path off)
      ∙ cleared m but.listed e.path seen but.listing
      ∙ ap (left_at m e.path) was
      ∙ ap (λ (b : Bool). cond (b && not (bytes_eq e.path control_path)) (Some (file bytes time)) None) (in_has (map (λ (x : FileEntry). x.path) m.files) e.path (path_in m.files e i))
      ∙ ap (λ (b : Bool). cond b (Some (file bytes time)) None) (is_false (bytes_eq e.path control_path) (λ t. off ((bytes_eq-Decides e.path control_path).0 t)))

  -- the node that the listing shows
  pub shown_there : (e : FileEntry) → In e m.files → 0 < e.size → e.path ≢ control_path → IsShown seen e → IsSome (file_bytes (h e.path))
  shown_there e i some off is_shown = by node.0 node.1 node.2
    where
      node : (x : Held) × (but.listed e.path ≡ Some x) × (File e.size is_shown.0 ≡ shown x)
      node = but.listing.each e.path (File e.size is_shown.0) (in_contains seen (e.path, File e.size is_shown.0) is_shown.1)

      by : (x : Held) → but.listed e.path ≡ Some x → File e.size is_shown.0 ≡ shown x → IsSome (file_bytes (h e.path))
      by (file bytes time) was is = subst (λ (x : Option Held). IsSome (file_bytes x)) (sym (listed_stays e i some off bytes time was)) refl
      by folder was is = cc
      by link was is = cc
      by other was is = cc

module _ (stanza : Text) (links : List LinkState) (m : Manifest) (rules : IsManifest m)
    (es : List FileEntry)
    (are : (e : FileEntry) → In e es → In e m.files × (0 < e.size) × (e.path ≢ control_path))
    (marks : List Bool)
    (held : (e : FileEntry) → In (e, true) (marked m.files marks) → In e m.files × (0 < e.size) × (e.path ≢ control_path))
    (seen : List (Text × Node)) (g : Nodes) (but : IsListedBut g seen) (h t k : Nodes)
    (bares : Bares m.files (Some (with_folders m.folders (without m seen g))) (Some h))
    (times : SetsTimes (marked m.files marks) (Some h) (Some t))
    (fills : Fills stanza m.label links es (Some t) (Some k)) where
  -- no two entries have one path
  once : (d e : FileEntry) → In d m.files → In e m.files → d.path ≡ e.path → d ≡ e
  once d e i j same = one_name (λ (x : FileEntry). x.path) m.files d e rules.file_order i j same

  abbrev start : Nodes
  start = with_folders m.folders (without m seen g)

  -- a path that no file is written to is unchanged
  unfilled : (q : Text) → ((e : FileEntry) → In e es → q ≢ e.path) → ¬ IsTemporary q → k q ≡ t q
  unfilled q apart lasting = known q t k (fills.others q (λ e i. (apart e i, lasts e.path q lasting)))

  -- nor is one whose file isn't kept
  untimed : (q : Text) → ((e : FileEntry) → In (e, true) (marked m.files marks) → q ≢ e.path) → t q ≡ h q
  untimed q apart = known q h t (times.others q apart)

  bare_stays : (e : FileEntry) → In e m.files → is_bare e ≡ true → HasTimed e.path [] e.time k
  bare_stays e i bare =
      unfilled e.path (λ d j is. bare_no_size e bare (subst (λ (x : FileEntry). 0 < x.size) (sym (once e d i (are d j).0 is)) (are d j).1)) ((rules.files e i).lasting)
      ∙ untimed e.path (λ d j is. bare_no_size e bare (subst (λ (x : FileEntry). 0 < x.size) (sym (once e d i (held d j).0 is)) (held d j).1))
      ∙ bares.each e i bare

  folder_stays : (p : Text) → In p m.folders → k p ≡ Some folder
  folder_stays p i =
      unfilled p (λ d j is. rules.apart p (subst (λ (q : Text). In q (map (λ (x : FileEntry). x.path) m.files)) (sym is) (path_in m.files d (are d j).0)) i) ((rules.folders p i).lasting)
      ∙ untimed p (λ d j is. rules.apart p (subst (λ (q : Text). In q (map (λ (x : FileEntry). x.path) m.files)) (sym is) (path_in m.files d (held d j).0)) i)
      ∙ known p start h (bares.others p (λ e j bare is. rules.apart p (subst (λ (q : Text). In q (map (λ (x : FileEntry). x.path) m.files)) (sym is) (path_in m.files e j)) i))
      ∙ folder_made m.folders (without m seen g) p i

  -- what the manifest doesn't have is removed
  stranger : (p : Text) → ¬ In p m.folders → ¬ In p (map (λ (x : FileEntry). x.path) m.files) → (o : Option Held) → left_at m p o ≡ None
  stranger p no_folder no_file None = refl
  stranger p no_folder no_file (Some (file bytes time)) = ap (λ (b : Bool). cond (b && not (bytes_eq p control_path)) (Some (file bytes time)) None) (none_found (map (λ (x : FileEntry). x.path) m.files) p no_file)
  stranger p no_folder no_file (Some folder) = ap (λ (b : Bool). cond b (Some folder) None) (none_found m.folders p no_folder)
  stranger p no_folder no_file (Some link) = refl
  stranger p no_folder no_file (Some other) = refl

  gone_first : (p : Text) → ¬ In p m.folders → ((e : FileEntry) → In e m.files → p ≢ control_path → p ≢ e.path) → without m seen g p ≡ None
  gone_first p no_folder apart = by (bytes_eq p control_path) refl
    where
      at_control : p ≡ control_path → (g control_path ≡ None) ⊎ ((g control_path ≡ Some folder) × (but.listed control_path ≡ Some folder)) → without m seen g p ≡ None
      at_control is (inl none) = none_left m g p seen (ap g is ∙ none)
      at_control is (inr both) =
          without_at p m seen g but.listed (ap g is ∙ both.0 ∙ sym both.1 ∙ ap but.listed (sym is))
          ∙ cleared m but.listed p seen but.listing
          ∙ ap (left_at m p) (ap but.listed is ∙ both.1)
          ∙ ap (λ (b : Bool). cond b (Some folder) None) (none_found m.folders p no_folder)

      by : (b : Bool) → bytes_eq p control_path ≡ b → without m seen g p ≡ None
      by true is = at_control ((bytes_eq-Decides p control_path).0 is) but.control
      by false is =
          let off : p ≢ control_path = λ e. true_false (sym ((bytes_eq-Decides p control_path).1 e) ∙ is) in
          without_at p m seen g but.listed (but.others p off)
          ∙ cleared m but.listed p seen but.listing
          ∙ stranger p no_folder (λ i. let x = in_paths m.files p i in apart x.0 x.1 off x.2) (but.listed p)

  -- no written path is the one
  not_written : (p : Text) → ((e : FileEntry) → In e m.files → p ≢ control_path → p ≢ e.path) → (e : FileEntry) → In e m.files → e.path ≢ control_path → p ≢ e.path
  not_written p apart e i off is = apart e i (λ c. off (sym is ∙ c)) is

  gone_last : (p : Text) → ¬ In p m.folders → ((e : FileEntry) → In e m.files → p ≢ control_path → p ≢ e.path) → k p ≡ None
  gone_last p no_folder apart = by (temp_of es p)
    where
      before : t p ≡ None
      before = untimed p (λ e i. not_written p apart e (held e i).0 (held e i).2) ∙ known p start h (bares.others p (λ e i bare. not_written p apart e i (bare_no_control e bare))) ∙ folder_apart m.folders (without m seen g) p no_folder ∙ gone_first p no_folder apart

      by : ((e : FileEntry) × In e es × (p ≡ temporary_path e.path)) ⊎ ((e : FileEntry) → In e es → p ≢ temporary_path e.path) → k p ≡ None
      by (inl x) = ap k x.2 ∙ (fills.each x.0 x.1).alone
      by (inr none) = known p t k (fills.others p (λ e i. (not_written p apart e (are e i).0 (are e i).2, none e i))) ∙ before

  -- it stays, with its bytes, and gets its time
  pub kept_stays : (e : FileEntry) → In (e, true) (marked m.files marks) → ((d : FileEntry) → In d es → e.path ≢ d.path) → (bytes : Text) (time : ℕ) → but.listed e.path ≡ Some (file bytes time) → HasTimed e.path bytes e.time k
  kept_stays e i unwritten bytes time was =
      let x = held e i in
      let both : ◌≡◌ {A = Option (Option Held)} (Some (t e.path)) (Some (with_time e.time (h e.path))) = times.each e i in
      let timed : t e.path ≡ with_time e.time (h e.path) = cc in
      unfilled e.path unwritten ((rules.files e x.0).lasting)
      ∙ timed
      ∙ ap (with_time e.time) (listed_stays m rules seen g but h bares e x.0 x.1 x.2 bytes time was)

  -- the same by an entry that is shown alike
  pub alike_stays : (first : List LinkState) (o : Options) (e : FileEntry) → In (e, true) (marked m.files marks) → IsAlike first o seen e → ((d : FileEntry) → In d es → e.path ≢ d.path) → IsKept first o e (Some g) k
  alike_stays first o e i alike unwritten = by shown_node.0 shown_node.1 shown_node.2
    where
      off : e.path ≢ control_path
      off = ordinary_off o.recovery e alike.ordinary

      shown_node : (x : Held) × (but.listed e.path ≡ Some x) × (File e.size alike.shown.0 ≡ shown x)
      shown_node = but.listing.each e.path (File e.size alike.shown.0) (in_contains seen (e.path, File e.size alike.shown.0) alike.shown.1)

      by : (x : Held) → but.listed e.path ≡ Some x → File e.size alike.shown.0 ≡ shown x → IsKept first o e (Some g) k
      by (file bytes time) was is =
          record {
            delta = alike.delta;
            ordinary = alike.ordinary;
            bytes = bytes;
            was = (time, ap (λ (x : Option Held). Some x) (but.others e.path off ∙ was));
            is = kept_stays e i unwritten bytes time was;
            size = sym (size_of is);
            digested = alike.digested;
          }
        where
          size_of : {a b c d : ℕ} → ◌≡◌ {A = Node} (File a b) (File c d) → a ≡ c
          size_of e = cc
      by folder was is = cc
      by link was is = cc
      by other was is = cc

  -- where all were written that are ordinary and not marked, and all that are marked are alike
  pub plain : (first : List LinkState) (o : Options) → ((e : FileEntry) → In (e, false) (marked m.files marks) → is_ordinary o.recovery e ≡ true → IsFilled stanza m.label first e k)
      → AllAlike first o seen m.files marks → ((d : FileEntry) → In d es → In (d, false) (marked m.files marks)) → IsPlain stanza first o m marks (Some g) Nothing k
  plain first o all alike unmarked = record {
    bare = λ e i bare _. bare_stays e i bare;
    filled = all;
    kept = λ e i. alike_stays first o e i (alike e i) (λ d j same. true_false (one_mark m.files marks e d true false rules.file_order i (unmarked d j) same));
    settings = tt;
    folder = folder_stays;
    nothing = λ path off apart _. gone_last path off apart;
  }
