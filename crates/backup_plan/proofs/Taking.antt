-- What a loop over a listing has taken of it.
use Rattle.std.proofs.Common.{◌≡◌, ⊎_elim, ℕ, ◌+◌, ◌<◌, Bool, true, false, List, [], ◌∷◌, ◌++◌, map, take, drop, length, get_or, refl, sym, ap, ◌∙◌, subst, append_assoc, take-append-drop}
use Rattle.std.specs.Prelude.{if◌then◌else◌}
use Rattle.std.proofs.lemmas.List.{map-append}
use Rattle.std.proofs.lemmas.List.Elements.{filter-append}
use Rattle.base_devices.specs.declared.data_folder.FolderEntry as rust
use Rattle.base_model.specs.Text.{Text, In}
use Rattle.backup_plan.specs.declared.fault.PlanFault.{PlanFault}
use Rattle.backup_plan.specs.declared.fault.PlanFault.TheVariants as faults
use Rattle.backup_plan.specs.Listed.{Taken}
use Rattle.backup_plan.specs.Filter.{ListedNode, is_kept, kept, file_at, folder_at, files_of, folders_of, AreFine, IsRefused, IsRefusedNode}
use Rattle.backup_plan.specs.Views.{seen_of}
use Rattle.backup_plan.proofs.Lists.{passed, in_parts}

files_append : (ms ns : List ListedNode) → files_of (ms ++ ns) ≡ files_of ms ++ files_of ns
files_append [] ns = refl
files_append (m ∷ ms) ns = ap (λ (fs : List Taken). file_at m.0 m.1 ++ fs) (files_append ms ns) ∙ sym (append_assoc (file_at m.0 m.1) (files_of ms) (files_of ns))

folders_append : (ms ns : List ListedNode) → folders_of (ms ++ ns) ≡ folders_of ms ++ folders_of ns
folders_append [] ns = refl
folders_append (m ∷ ms) ns = ap (λ (fs : List Text). folder_at m.0 m.1 ++ fs) (folders_append ms ns) ∙ sym (append_assoc (folder_at m.0 m.1) (folders_of ms) (folders_of ns))

one : (online : Bool) (n : ListedNode) (b : Bool) → is_kept online n ≡ b → kept online (n ∷ []) ≡ (if b then n ∷ [] else [])
one online n b is = ap (λ (t : Bool). if t then n ∷ [] else []) is

-- the fault of a node is that of the listing, where those before it are fine
pub refused_at : (ns prefix : List ListedNode) (n : ListedNode) (back : List ListedNode) → ns ≡ prefix ++ n ∷ back → AreFine prefix → (e : PlanFault) → IsRefusedNode n e → IsRefused ns e
refused_at ns prefix n back is fine (faults.LinkFound path) h = record { prefix = prefix; node = n; back = back; is = is; fine = fine; has = h }
refused_at ns prefix n back is fine (faults.NameRefused path fault) h = record { prefix = prefix; node = n; back = back; is = is; fine = fine; has = h }
refused_at ns prefix n back is fine faults.Unordered h = absurd h
refused_at ns prefix n back is fine (faults.ControlMissing path) h = absurd h
refused_at ns prefix n back is fine (faults.TooMany limit) h = absurd h
refused_at ns prefix n back is fine faults.NoMemory h = tt

-- what holds of each node of two lists
both : (P : ListedNode → Type 0) (ms ns : List ListedNode) → ((n : ListedNode) → In n ms → P n) → ((n : ListedNode) → In n ns → P n) → (n : ListedNode) → In n (ms ++ ns) → P n
both P ms ns first second n here = ⊎_elim (λ (i : In n ms). first n i) (λ (i : In n ns). second n i) (in_parts ms ns n here)

-- the node is taken by itself, or nothing is
pub all_of_one : (P : ListedNode → Type 0) (online : Bool) (n : ListedNode) → (is_kept online n ≡ true → P n) → (m : ListedNode) → In m (kept online (n ∷ [])) → P m
all_of_one P online n this m here = by (is_kept online n) refl where
  by : (b : Bool) → is_kept online n ≡ b → P m
  by true is = ⊎_elim (λ (e : m ≡ n). subst P (sym e) (this is)) (λ (none : ⊥). absurd none) (subst (λ (ns : List ListedNode). In m ns) (one online n true is) here)
  by false is = absurd (subst (λ (ns : List ListedNode). In m ns) (one online n false is) here)

module _ (online : Bool) (seen : List rust.FolderEntry) (i : ℕ) (x : rust.FolderEntry) (less : i < length seen) (is : x ≡ get_or seen i x) where
  abbrev so_far : List ListedNode
  so_far = kept online (map seen_of (take i seen))

  abbrev this : List ListedNode
  this = kept online (seen_of x ∷ [])

  abbrev next : List ListedNode
  next = kept online (map seen_of (take (i + 1) seen))

  pub joined : next ≡ so_far ++ this
  joined = ap (kept online) (passed seen_of seen i x less is) ∙ filter-append (is_kept online) (map seen_of (take i seen)) (seen_of x ∷ [])

  pub all_next : (P : ListedNode → Type 0) → ((n : ListedNode) → In n so_far → P n) → ((n : ListedNode) → In n this → P n) → (n : ListedNode) → In n next → P n
  all_next P first second = subst (λ (ns : List ListedNode). (n : ListedNode) → In n ns → P n) (sym joined) (both P so_far this first second)

  pub files_next : (fs gs : List Taken) → fs ≡ files_of so_far → gs ≡ fs ++ files_of this → gs ≡ files_of next
  files_next fs gs old new = new ∙ ap (λ (l : List Taken). l ++ files_of this) old ∙ sym (files_append so_far this) ∙ ap files_of (sym joined)

  pub folders_next : (fs gs : List Text) → fs ≡ folders_of so_far → gs ≡ fs ++ folders_of this → gs ≡ folders_of next
  folders_next fs gs old new = new ∙ ap (λ (l : List Text). l ++ folders_of this) old ∙ sym (folders_append so_far this) ∙ ap folders_of (sym joined)

  abbrev rest : List ListedNode
  rest = kept online (map seen_of (drop (i + 1) seen))

  parts : map seen_of seen ≡ map seen_of (take (i + 1) seen) ++ map seen_of (drop (i + 1) seen)
  parts = ap (map seen_of) (sym (take-append-drop (i + 1) seen)) ∙ map-append seen_of (take (i + 1) seen) (drop (i + 1) seen)

  whole : is_kept online (seen_of x) ≡ true → kept online (map seen_of seen) ≡ so_far ++ seen_of x ∷ rest
  whole keep =
      ap (kept online) parts ∙ filter-append (is_kept online) (map seen_of (take (i + 1) seen)) (map seen_of (drop (i + 1) seen))
      ∙ ap (λ (ns : List ListedNode). ns ++ rest) (joined ∙ ap (λ (ns : List ListedNode). so_far ++ ns) (one online (seen_of x) true keep))
      ∙ append_assoc so_far (seen_of x ∷ []) rest

  -- the fault of this node is that of the listing
  pub refused_here : AreFine so_far → is_kept online (seen_of x) ≡ true → (e : PlanFault) → IsRefusedNode (seen_of x) e → IsRefused (kept online (map seen_of seen)) e
  refused_here fine keep e h = refused_at (kept online (map seen_of seen)) so_far (seen_of x) rest (whole keep) fine e h
