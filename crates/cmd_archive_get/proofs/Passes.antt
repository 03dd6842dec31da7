-- A stored file is copied to the temporary name, and put in its place.
use Rattle.std.proofs.Common.{◌≡◌, Bool, true, false, cond, bytes_eq, ℕ, ◌++◌, Option, Some, None, option_map, Ok, refl, ap, sym, ◌∙◌, subst}
use Rattle.std.specs.Prelude.{IfSome}
use Rattle.base_text.specs.declared.sum.Sum.{Sum}
use Rattle.base_devices.specs.Content.{Name, Content, at, SameBut}
use Rattle.base_devices.specs.DataFolder.{Held, file, Nodes, file_bytes, with_node, longer, lengthened_file, moved_node}
use Rattle.base_model.specs.Text.{Text}
use Rattle.cmd_archive_get.specs.declared.served_file.Copied.{Copied}
use Rattle.cmd_archive_get.specs.declared.served_file.Copied.TheVariants.{Whole}
use Rattle.cmd_archive_get.specs.Getting.{HasFile, IsPut, ChangesPath, temporary_path}
use Rattle.cmd_archive_get.specs.Serving.{IsBegun, CopiedOf, Copies, AreStoredAt}
use Rattle.cmd_archive_get.proofs.Folders.{set_other, set_same, changes_temporary, changes_on, changes_as, renames, renamed}

-- ---- a file where nothing was

module _ (name : Name) where
  twice : (x y : Option Held) (f : Nodes) → with_node name x (with_node name y f) ≡ with_node name x f
  twice x y f = λ i q. both (bytes_eq name q) (f q) i
    where
      both : (b : Bool) (z : Option Held) → cond b x (cond b y z) ≡ cond b x z
      both true z = refl
      both false z = refl

  grown : (bytes more : Text) (one two : ℕ) (f : Nodes)
      → lengthened_file name more two (with_node name (Some (file bytes one)) f) ≡ with_node name (Some (file (bytes ++ more) two)) f
  grown bytes more one two f =
      let g : Nodes = with_node name (Some (file bytes one)) f in
      ap (λ (o : Option Held). with_node name (longer more two o) g) (set_same name (Some (file bytes one)) f) ∙ twice (Some (file (bytes ++ more) two)) (Some (file bytes one)) f

  module _ (bytes : Text) (old mid : Option Nodes) (b : IsBegun name bytes old mid) where
    -- more bytes are added
    pub begun_more : (more : Text) (new : Option Nodes)
        → ((time : ℕ) × (new ≡ option_map (lengthened_file name more time) mid)) → IsBegun name (bytes ++ more) old new
    begun_more more new h = record { free = b.free; time = h.0; lies = h.1 ∙ ap (option_map (lengthened_file name more h.0)) b.lies ∙ go old }
      where
        go : (o : Option Nodes) → option_map (lengthened_file name more h.0) (option_map (with_node name (Some (file bytes b.time))) o) ≡ option_map (with_node name (Some (file (bytes ++ more) h.0))) o
        go None = refl
        go (Some f) = ap (λ (g : Nodes). Some g) (grown bytes more b.time h.0 f)

    -- nothing else has changed
    pub begun_same : SameBut name old mid
    begun_same q apart = ap (at q) b.lies ∙ go old
      where
        go : (o : Option Nodes) → at q (option_map (with_node name (Some (file bytes b.time))) o) ≡ at q o
        go None = refl
        go (Some f) = ap (λ (v : Option Held). Some v) (set_other name (Some (file bytes b.time)) f q apart)

    pub begun_holds : IfSome mid (HasFile name bytes)
    begun_holds = subst (λ (o : Option Nodes). IfSome o (HasFile name bytes)) (sym b.lies) (go old)
      where
        go : (o : Option Nodes) → IfSome (option_map (with_node name (Some (file bytes b.time))) o) (HasFile name bytes)
        go None = tt
        go (Some f) = ap file_bytes (set_same name (Some (file bytes b.time)) f)

pub same_on : (name : Name) (old mid new : Option Nodes) → SameBut name old mid → SameBut name mid new
    → SameBut name old new
same_on name old mid new first next q apart = next q apart ∙ first q apart

-- ---- and it is renamed

module _ (path temporary : Text) (is : temporary ≡ temporary_path path) where
  -- only the temporary file has changed
  pub changes_only : (IsOf : Text → Type 0) (old new : Option Nodes) → SameBut temporary old new
      → ChangesPath path IsOf old new
  changes_only IsOf old new same = changes_temporary path IsOf old new (subst (λ (t : Name). SameBut t old new) is same)

  module _ (bytes : Text) (old mid new : Option Nodes) (b : IsBegun temporary bytes old mid) (moved : new ≡ option_map (moved_node temporary path) mid) where
    pub puts_copy : IfSome new (IsPut path bytes)
    puts_copy = renamed path bytes temporary mid new is (begun_holds temporary bytes old mid b) moved

    pub moves_copy : (IsOf : Text → Type 0) → IsOf bytes → ChangesPath path IsOf old new
    moves_copy IsOf of = changes_on path IsOf old mid new (changes_only IsOf old mid (begun_same temporary bytes old mid b))
        (changes_as path (λ b. b ≡ bytes) IsOf mid new (λ b same. subst IsOf (sym same) of) (renames path bytes {T = Unit {0}} {E = Unit {0}} (Ok tt) temporary mid new is (begun_holds temporary bytes old mid b) moved))

-- ---- a copy with the right sum

-- of any copy a file of some bytes is there
pub some_copy : (copied : Copied) (repo : Option Content) (from name : Text) (old new : Option Nodes)
    → Copies (Ok (Some copied)) repo from name old new → SameBut name old new
some_copy copied repo from name old new h = begun_same name h.0 old new h.2

pub copied_right : (repo : Option Content) (from text : Text) (sum : Sum) (bytes : Text) → from ≡ text
    → CopiedOf (Whole sum) repo from bytes → AreStoredAt repo text sum.0 bytes
copied_right repo from text sum bytes same h = (subst (λ (n : Text). IfSome repo (λ f. f n ≡ Some bytes)) same h.0, sym h.1)

-- ---- what was served

pub goes_as : (P Q : Text → Type 0) (path : Text) (old mid new : Option Nodes) → mid ≡ old → ((b : Text) → P b → Q b)
    → ChangesPath path P mid new → ChangesPath path Q old new
goes_as P Q path old mid new same to h = changes_as path P Q old new to (subst (λ (o : Option Nodes). ChangesPath path P o new) same h)
