-- No call of a restore is faulty.
use Rattle.std.proofs.Common.{Bool, true, false, not, ◌≡◌, ◌≢◌, ◌<◌, ◌||◌, ◌⊎◌, inl, inr, refl, sym, ap, ◌∙◌, subst, arith, List, [], ◌∷◌, length, length-append, Option, Some, None, option_map, bytes_eq}
use Rattle.std.specs.Prelude.{IfSome, IsSome, codes, Contains}
use Rattle.std.specs.List.{list_any}
use Rattle.std.proofs.lemmas.Bool.{and_parts}
use Rattle.std.proofs.lemmas.Slice.Eq.{bytes_eq-Decides}
use Rattle.base_devices.specs.Content.{at}
use Rattle.base_devices.specs.declared.data_folder.Node.{Node}
use Rattle.base_devices.specs.declared.data_folder.Node.TheVariants.{Folder}
use Rattle.base_devices.specs.DataFolder.{Nodes, Held, folder, shown, file_bytes, IsTreeListing, IsPlaced, IsBare, IsFileAt}
use Rattle.base_model.specs.declared.labels.Label.{Label}
use Rattle.base_devices.specs.Links.{LinkState}
use Rattle.base_model.specs.ManifestText.{IsManifest}
use Rattle.restore_make.specs.Options.{is_added}
use Rattle.restore_make.specs.Recovered.{Recovery}
use Rattle.restore_make.specs.Recovered.Recovery.{FromArchive, Nothing}
use Rattle.base_model.specs.Text.{Text, In, ◌⫽◌}
use Rattle.base_model.specs.Values.{FileEntry, Manifest}
use Rattle.restore_steps.specs.declared.contents.files.Wanted.{Wanted}
use Rattle.restore_steps.specs.Files.{temporary_path}
use Rattle.restore_steps.specs.Keeping.{IsFolderAt, HaveFolders}
use Rattle.restore_steps.specs.Clearing.{control_path, without, with_folders, IsListed}
use Rattle.restore_steps.proofs.Cleared.{folder_made}
use Rattle.restore_steps.proofs.Ordered.{one_name}
use Rattle.restore_make.specs.Entries.{IsBeside, Fills, reads_of}
use Rattle.restore_make.specs.Finished.{waiting_path, HasEntry}
use Rattle.restore_make.specs.Kept.{marked}
use Rattle.restore_make.specs.KeptTimes.{SetsTimes}
use Rattle.restore_make.specs.Listed.{is_folder, is_control_node, IsListedBut, IsPrepared, HasFolders, AreHoused}
use Rattle.restore_make.proofs.Fetched.{one_none}
use Rattle.restore_make.proofs.Names.{lasts, own_path, no_signal}
use Rattle.restore_make.proofs.Plain.{path_in}
use Rattle.restore_make.proofs.ReadEntries.{in_read, marked_in}
use Rattle.restore_make.proofs.Shown.{in_contains, contains_in}

-- ---- folders that stay

-- a folder that is unchanged
pub folder_stays : (path : Text) (u v : Option Nodes) → at path v ≡ at path u → IsFolderAt path u → IsFolderAt path v
folder_stays path u v same there = subst (λ (o : Option (Option Held)). IfSome o (λ node. node ≡ Some folder)) (sym same) there

-- a path whose folder is there
pub is_placed : (path : Text) (nodes : Option Nodes) → ((prefix last : Text) → path ≡ prefix ⫽ last → ¬ Contains last 47 → IsFolderAt prefix nodes) → IsPlaced nodes path
is_placed path None there = tt
is_placed path (Some f) there = there

pub placed_folder : (path : Text) (nodes : Option Nodes) → IsPlaced nodes path → (prefix last : Text) → path ≡ prefix ⫽ last → ¬ Contains last 47 → IsFolderAt prefix nodes
placed_folder path None placed prefix last is plain = tt
placed_folder path (Some f) placed prefix last is plain = placed prefix last is plain

shorter : (path prefix last : Text) → path ≡ prefix ⫽ last → length prefix < length path
shorter path prefix last is = omega (arith, ap (λ (t : Text). length t) is, length-append prefix (47 ∷ last))

temporary_longer : (path : Text) → length path < length (temporary_path path)
temporary_longer path = omega (arith, length-append path (codes ".pgbackrest.tmp"))

off_longer : (p q : Text) → length p < length q → p ≢ q
off_longer p q lt e = omega (arith, lt, ap (λ (t : Text). length t) e)

-- ---- one file

-- it has its folder, which isn't itself
pub one_housed : (w : Wanted) (path : Text) (nodes : Option Nodes) → w.path.now ≡ path → IsPlaced nodes path → HaveFolders (w ∷ []) nodes
one_housed w path nodes path_is placed x (inr i) prefix last is plain = absurd i
one_housed w path nodes path_is placed x (inl e) prefix last is plain =
    let whole : w.path.now ≡ prefix ⫽ last = ap (λ (y : Wanted). y.path.now) (sym e) ∙ is in
    let less = shorter w.path.now prefix last whole in (
      one_none w prefix (off_longer prefix w.path.now less) (off_longer prefix (temporary_path w.path.now) (omega (arith, less, temporary_longer w.path.now))),
      placed_folder path nodes placed prefix last (sym path_is ∙ whole) plain,
    )

-- the control file still has its folder once it waits
pub control_placed : (u v : Option Nodes) → ((q : Text) → q ≢ waiting_path → q ≢ temporary_path waiting_path → at q v ≡ at q u) → IsPlaced u control_path → IsPlaced v control_path
control_placed u v others placed = is_placed control_path v
    (λ prefix last is plain.
    let less = shorter control_path prefix last is in
    let wait : length prefix < length waiting_path = omega (arith, less, temporary_longer control_path) in
    folder_stays prefix u v
    (others prefix (off_longer prefix waiting_path wait) (off_longer prefix (temporary_path waiting_path) (omega (arith, wait, temporary_longer waiting_path))))
    (placed_folder control_path u placed prefix last is plain))

pub entry_there : (stanza : Text) (own : Label) (links : List LinkState) (e : FileEntry) (path : Text) (nodes : Option Nodes) → IfSome nodes (HasEntry stanza own links e path) → IsFileAt nodes path
entry_there stanza own links e path None has = tt
entry_there stanza own links e path (Some f) has = subst (λ (x : Option Held). IsSome (file_bytes x)) (sym has.file) refl

-- ---- the folders of a manifest

module _ (m : Manifest) (rules : IsManifest m) where
  -- none of them is a file, nor the temporary name of one
  beside_files : (prefix : Text) → In prefix m.folders → IsBeside m.files prefix
  beside_files prefix i d j = (
    λ e. rules.apart d.path (path_in m.files d j) (subst (λ (p : Text). In p m.folders) e i),
    lasts d.path prefix (rules.folders prefix i).lasting,
  )

  pub housed : (nodes : Option Nodes) → HasFolders m.folders nodes → AreHoused m.files nodes
  housed nodes there e i prefix last is plain = let h = (rules.files e i).placed prefix last is in (beside_files prefix h, there prefix h)

  pub entry_placed : (nodes : Option Nodes) (e : FileEntry) → HasFolders m.folders nodes → In e m.files → IsPlaced nodes e.path
  entry_placed nodes e there i = is_placed e.path nodes (λ prefix last is plain. there prefix ((rules.files e i).placed prefix last is))

  pub folders_on : (u v : Option Nodes) → ((q : Text) → IsBeside m.files q → at q v ≡ at q u) → HasFolders m.folders u → HasFolders m.folders v
  folders_on u v others there p i = folder_stays p u v (others p (beside_files p i)) (there p i)

  -- the settings are none of them
  own_folder : (r : Recovery) (p : Text) → In p m.folders → is_added r p ≡ false
  own_folder Nothing p i = refl
  own_folder (FromArchive fetch) p i = let off = (rules.folders p i).signal in own_path fetch p off.2 (no_signal fetch p off.0 off.1)

  pub folders_beside_settings : (r : Recovery) (u v : Option Nodes) → ((q : Text) → is_added r q ≡ false → at q v ≡ at q u) → HasFolders m.folders u → HasFolders m.folders v
  folders_beside_settings r u v others there p i = folder_stays p u v (others p (own_folder r p i)) (there p i)

  made_ready : (seen : List (Text × Node)) (old : Option Nodes) → HasFolders m.folders (option_map (λ (f : Nodes). with_folders m.folders (without m seen f)) old)
  made_ready seen None p i = tt
  made_ready seen (Some f) p i = folder_made m.folders (without m seen f) p i

  pub prepared_folders : (seen : List (Text × Node)) (old new : Option Nodes) → IsPrepared m seen old new → HasFolders m.folders new
  prepared_folders seen old new ready p i =
      folder_stays p ready.mid new (ready.bares.others p (λ e j bare. (beside_files p i e j).0))
      (subst (λ (o : Option Nodes). IsFolderAt p o) (sym ready.mid_is) (made_ready seen old p i))

  pub timed_folders : (marks : List Bool) (old new : Option Nodes) → SetsTimes (marked m.files marks) old new → HasFolders m.folders old → HasFolders m.folders new
  timed_folders marks old new times there p i =
      folder_stays p old new (times.others p (λ e j. (beside_files p i e (marked_in m.files marks (e, true) j)).0)) (there p i)

  pub filled_folders : (stanza : Text) (links : List LinkState) (r : Recovery) (marks : List Bool) (old new : Option Nodes) → Fills stanza m.label links (reads_of r (marked m.files marks)) old new → HasFolders m.folders old → HasFolders m.folders new
  filled_folders stanza links r marks old new fills there =
      folders_on old new (λ q beside. fills.others q (λ e i. beside e (marked_in m.files marks (e, false) (in_read r (marked m.files marks) e i).0))) there

-- ---- the listing

-- all that is left is listed
pub still_listed : (seen : List (Text × Node)) (nodes : Option Nodes) → IfSome nodes (λ f. IsListedBut f seen) → IfSome nodes (IsListed seen)
still_listed seen None listed = tt
still_listed seen (Some f) listed = record {
  all = λ q held is. by q held is (bytes_eq q control_path) refl;
  folders = λ prefix rest node i. contains_in seen (prefix, Folder) (listed.listing.folders prefix rest node (in_contains seen (prefix ⫽ rest, node) i));
  order = listed.listing.order;
}
  where
    tell : (q : Text) (held : Held) → listed.listed q ≡ Some held → (node : Node) × In (q, node) seen
    tell q held is = (shown held, contains_in seen (q, shown held) (listed.listing.all q held is))

    at_control : (g : (f control_path ≡ None) ⊎ ((f control_path ≡ Some folder) × (listed.listed control_path ≡ Some folder))) (held : Held) → f control_path ≡ Some held → (node : Node) × In (control_path, node) seen
    at_control (inl none) held is = let h : ◌≡◌ {A = Option Held} None (Some held) = sym none ∙ is in cc
    at_control (inr both) held is = tell control_path folder both.1

    by : (q : Text) (held : Held) → f q ≡ Some held → (b : Bool) → bytes_eq q control_path ≡ b → (node : Node) × In (q, node) seen
    by q held is true same =
        let e = (bytes_eq-Decides q control_path).0 same in
        subst (λ (p : Text). (node : Node) × In (p, node) seen) (sym e) (at_control listed.control held (sym (ap f e) ∙ is))
    by q held is false off = tell q held (sym (listed.others q (λ e. let h : ◌≡◌ {A = Bool} true false = sym ((bytes_eq-Decides q control_path).1 e) ∙ off in cc)) ∙ is)

-- the control file isn't a folder
found_control : (seen : List (Text × Node)) → list_any is_control_node seen ≡ true → (s : Text × Node) × In s seen × (is_control_node s ≡ true)
found_control [] any = cc
found_control (s ∷ ss) any = by (is_control_node s) refl any (λ more. found_control ss more)
  where
    by : (b : Bool) → is_control_node s ≡ b → (b || list_any is_control_node ss) ≡ true → (list_any is_control_node ss ≡ true → (t : Text × Node) × In t ss × (is_control_node t ≡ true)) → (t : Text × Node) × In t (s ∷ ss) × (is_control_node t ≡ true)
    by true is more rest = (s, inl refl, is)
    by false is more rest = let x = rest more in (x.0, inr x.1, x.2)

-- where the listing has one, nothing lies below it
pub control_bare : (seen : List (Text × Node)) (nodes : Option Nodes) → list_any is_control_node seen ≡ true → IfSome nodes (λ f. IsTreeListing f seen) → IsBare nodes control_path
control_bare seen None any listing = tt
control_bare seen (Some f) any listing = λ rest. go rest (f (control_path ⫽ rest)) refl
  where
    go : (rest : Text) (o : Option Held) → f (control_path ⫽ rest) ≡ o → f (control_path ⫽ rest) ≡ None
    go rest None is = is
    go rest (Some held) is =
        let found = found_control seen any in
        let parts = and_parts (bytes_eq found.0.0 control_path) (not (is_folder found.0.1)) found.2 in
        let here = contains_in seen (control_path, Folder) (listing.folders control_path rest (shown held) (listing.all (control_path ⫽ rest) held is)) in
        let same : found.0 ≡ (control_path, Folder) = one_name (λ (s : Text × Node). s.0) seen found.0 (control_path, Folder) listing.order found.1 here ((bytes_eq-Decides found.0.0 control_path).0 parts.0) in
        let h : ◌≡◌ {A = Bool} false true = ap (λ (s : Text × Node). not (is_folder s.1)) (sym same) ∙ parts.1 in
        cc
