-- What the prefixes of the two files state is what the files state.
use Rattle.std.proofs.Common.{◌≡◌, ℕ, ◌+◌, ◌<◌, ◌≤◌, ◌^◌, List, [], ◌∷◌, length, take, drop, Option, Some, None, option_map, sym, ap, ◌∙◌, subst, arith, length-append}
use Rattle.std.specs.Prelude.{IfSome, IsSomeAnd, decimal}
use Rattle.std.proofs.lemmas.List.{take-take, drop-take, take_all, length-take}
use Rattle.std.proofs.lemmas.Fmt.{length-decimal-le}
use Rattle.base_devices.specs.DataFolder.{Nodes}
use Rattle.base_model.specs.Text.{Text, little_endian}
use Rattle.repo_stanza.specs.declared.control.Control.{Control}
use Rattle.repo_stanza.specs.declared.control.ControlFault.{ControlFault}
use Rattle.repo_stanza.specs.declared.control.ControlFault.TheVariants.{ControlShort, VersionText, VersionUnsupported}
use Rattle.repo_stanza.specs.ControlFile.{Shows, IsRefused, IsVersionText}
use Rattle.cmd_types.specs.Cluster.{control_bytes, version_bytes, OfBoth, FolderShows}
use Rattle.cmd_setup.specs.Folder.{IsControlPrefix, IsVersionPrefix}

-- ---- prefixes

short_whole : (k : ℕ) (xs : Text) → length (take k xs) < k → take k xs ≡ xs
short_whole k xs short = take_all k xs (omega (arith, length-take k xs, short))

version_length : (n : ℕ) (text : Text) → n < 2 ^ 64 → IsVersionText n text → length text < 33
version_length n text small is = omega (arith, length-decimal-le 20 n (omega arith) (omega arith) small, ap length is, length-append (decimal n) (10 ∷ []))

-- a version's text is shorter than what is read of it
from_prefix : (n : ℕ) (v : Text) → n < 2 ^ 64 → IsVersionText n (take 33 v) → IsVersionText n v
from_prefix n v small is = sym (short_whole 33 v (version_length n (take 33 v) small is)) ∙ is

to_prefix : (n : ℕ) (v : Text) → n < 2 ^ 64 → IsVersionText n v → IsVersionText n (take 33 v)
to_prefix n v small is = take_all 33 v (let h = version_length n v small is in omega arith) ∙ is

prefix_of_prefix : (k m : ℕ) (c : Text) → k + m ≤ 16 → take m (drop k (take 16 c)) ≡ take m (drop k c)
prefix_of_prefix k m c le =
    let whole : take (k + m) (take 16 c) ≡ take (k + m) c = take-take (k + m) 16 c le in
    sym (drop-take k m (take 16 c)) ∙ ap (drop k) whole ∙ drop-take k m c

shows_prefix : (control version : Text) (known : Control) → Shows (take 16 control) (take 33 version) known → Shows control version known
shows_prefix c v known t = record {
  long = omega (arith, t.long, length-take 16 c);
  system = t.system ∙ ap little_endian (take-take 8 16 c (omega arith));
  control_version = t.control_version ∙ ap little_endian (prefix_of_prefix 8 4 c (omega arith));
  catalog = t.catalog ∙ ap little_endian (prefix_of_prefix 12 4 c (omega arith));
  version_text = from_prefix known.version v (omega (arith, t.supported.1)) t.version_text;
  supported = t.supported;
}

long_prefix : (c : Text) → 16 ≤ length (take 16 c) → 16 ≤ length c
long_prefix c long = omega (arith, long, length-take 16 c)

refused_prefix : (control version : Text) (e : ControlFault) → IsRefused (take 16 control) (take 33 version) e → IsRefused control version e
refused_prefix c v (ControlShort n) h = let whole = short_whole 16 c h.1 in (h.0 ∙ ap length whole, omega (arith, h.1, ap length whole))
refused_prefix c v VersionText h = (long_prefix c h.0, λ n small is. h.1 n small (to_prefix n v small is))
refused_prefix c v (VersionUnsupported n) h = (long_prefix c h.0, (h.1.0, from_prefix n v h.1.0 h.1.1, h.1.2))

-- ---- of the folder

-- the bytes of a file, as the prefix that was read
pub as_read : (nodes mid : Option Nodes) (P : Nodes → Option (List ℕ)) (items prefix : List ℕ) → mid ≡ nodes → prefix ≡ items →
    IfSome mid (λ f. P f ≡ Some items) → IfSome nodes (λ f. P f ≡ Some prefix)
as_read nodes mid P items prefix same is h =
    subst (λ (o : Option Nodes). IfSome o (λ f. P f ≡ Some prefix)) same (subst (λ (x : List ℕ). IfSome mid (λ f. P f ≡ Some x)) (sym is) h)

-- what holds of the prefixes holds of both files
of_both : (nodes : Option Nodes) (cf vf : Text) (P : Text → Text → Type 0) → IsControlPrefix nodes cf → IsVersionPrefix nodes vf →
    ((c v : Text) → take 16 c ≡ cf → take 33 v ≡ vf → P c v) → IfSome nodes (λ f. OfBoth f P)
of_both None cf vf P control version all = tt
of_both (Some f) cf vf P control version all = go (control_bytes f) (version_bytes f) control version
  where
    go : (o p : Option Text) → option_map (take 16) o ≡ Some cf → option_map (take 33) p ≡ Some vf → IsSomeAnd o (λ c. IsSomeAnd p (λ v. P c v))
    go (Some c) (Some v) h k = all c v
        (let e : ◌≡◌ {A = Option Text} (Some (take 16 c)) (Some cf) = h in cc) (let e : ◌≡◌ {A = Option Text} (Some (take 33 v)) (Some vf) = k in cc)
    go None p h k = let e : ◌≡◌ {A = Option Text} None (Some cf) = h in cc
    go (Some c) None h k = let e : ◌≡◌ {A = Option Text} None (Some vf) = k in cc

-- a relation of the prefixes, as one of what they are equal to
both_as : (R : Text → Text → Type 0) (cf vf c v : Text) → take 16 c ≡ cf → take 33 v ≡ vf → R cf vf → R (take 16 c) (take 33 v)
both_as R cf vf c v p q r = subst (λ (x : Text). R x (take 33 v)) (sym p) (subst (λ (x : Text). R cf x) (sym q) r)

pub folder_shows : (nodes : Option Nodes) (cf vf : Text) (known : Control) → IsControlPrefix nodes cf → IsVersionPrefix nodes vf →
    Shows cf vf known → IfSome nodes (λ f. FolderShows f known)
folder_shows nodes cf vf known control version shows = of_both nodes cf vf (λ c v. Shows c v known) control version
    (λ c v p q. shows_prefix c v known (both_as (λ x y. Shows x y known) cf vf c v p q shows))

pub folder_refuses : (nodes : Option Nodes) (cf vf : Text) (e : ControlFault) → IsControlPrefix nodes cf → IsVersionPrefix nodes vf →
    IsRefused cf vf e → IfSome nodes (λ f. OfBoth f (λ c v. IsRefused c v e))
folder_refuses nodes cf vf e control version refused = of_both nodes cf vf (λ c v. IsRefused c v e) control version
    (λ c v p q. refused_prefix c v e (both_as (λ x y. IsRefused x y e) cf vf c v p q refused))
