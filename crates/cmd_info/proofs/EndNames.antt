-- Names that bound what is stored are added cluster by cluster.
use Rattle.std.proofs.Common.{◌≡◌, ◌<◌, ◌+◌, inl, inr, ℕ, List, [], ◌∷◌, ◌++◌, map, take, length, get_or, Option, Some, None, refl, sym, ap, ◌∙◌, subst}
use Rattle.std.specs.Prelude.{IfSome}
use Rattle.std.proofs.lemmas.List.{take_more}
use Rattle.base_devices.specs.Content.{Content}
use Rattle.base_model.specs.declared.clusters.ClusterId.{ClusterId}
use Rattle.base_model.specs.declared.wal.ArchiveId.{ArchiveId}
use Rattle.base_model.specs.declared.wal.Segment.{Segment}
use Rattle.base_model.specs.Text.{Text, In}
use Rattle.repo_keys.proofs.Numbers.{in_map, map_in}
use Rattle.archive_lookup.specs.Ends.{StoresWhole, AreEnds}
use Rattle.cmd_info.specs.declared.report.report.ArchivedName.{ArchivedName}
use Rattle.cmd_types.specs.Current.{id_kept}
use Rattle.cmd_info.specs.Reporting.{named, AreRound, HaveEnds}
use Rattle.cmd_info.proofs.ReportNames.{of_append}

in_left : {X : Type 0} (xs ys : List X) (x : X) → In x xs → In x (xs ++ ys)
in_left [] ys x at = absurd at
in_left (z ∷ zs) ys x (inl e) = inl e
in_left (z ∷ zs) ys x (inr i) = inr (in_left zs ys x i)

in_right : {X : Type 0} (xs ys : List X) (x : X) → In x ys → In x (xs ++ ys)
in_right [] ys x at = at
in_right (z ∷ zs) ys x at = inr (in_right zs ys x at)

module _ (stanza : Text) (f : Content) (history : List ClusterId) (c : ClusterId) (names : List ArchivedName) (found : List Segment) (have : HaveEnds stanza history f names) (ends : AreEnds stanza (id_kept c) f found) where
  abbrev further : List ArchivedName
  further = map (named (id_kept c)) found

  abbrev Listed : ArchivedName → Type 0
  Listed n = (d : ClusterId) × (segment : Segment) × In d (history ++ c ∷ []) × (n ≡ named (id_kept d) segment) × StoresWhole stanza (id_kept d) f segment

  old_listed : (n : ArchivedName) → In n names → Listed n
  old_listed n at = let (d, t, of, is, stored) = have.each n at in (d, t, in_left history (c ∷ []) d of, is, stored)

  new_listed : (n : ArchivedName) → In n further → Listed n
  new_listed n at = let (t, there, is) = map_in (named (id_kept c)) found n at in (c, t, in_right history (c ∷ []) c (inl refl), is, ends.each t there)

  old_round : (d : ClusterId) (t : Segment) → AreRound (id_kept d) t names → AreRound (id_kept d) t (names ++ further)
  old_round d t round =
      let (u, at, clear) = round.first in
      let (v, there, apart) = round.last in
      record { first = (u, in_left names further (named (id_kept d) u) at, clear); last = (v, in_left names further (named (id_kept d) v) there, apart) }

  new_round : (t : Segment) → StoresWhole stanza (id_kept c) f t → AreRound (id_kept c) t (names ++ further)
  new_round t stored =
      let (u, at, clear) = ends.first t stored in
      let (v, there, apart) = ends.last t stored in
      record {
        first = (u, in_right names further (named (id_kept c) u) (in_map (named (id_kept c)) found u at), clear);
        last = (v, in_right names further (named (id_kept c) v) (in_map (named (id_kept c)) found v there), apart);
      }

  more_have : HaveEnds stanza (history ++ c ∷ []) f (names ++ further)
  more_have = record {
    each = λ n at. of_append names further Listed n at (old_listed n) (new_listed n);
    round = λ d at t stored. of_append history (c ∷ []) (λ (e : ClusterId). StoresWhole stanza (id_kept e) f t → AreRound (id_kept e) t (names ++ further)) d at
        (λ of kept. old_round d t (have.round d of t kept)) (λ of. last_round d t of) stored;
  }
    where
      last_round : (d : ClusterId) (t : Segment) → In d (c ∷ []) → StoresWhole stanza (id_kept d) f t → AreRound (id_kept d) t (names ++ further)
      last_round d t (inl e) = subst (λ (x : ClusterId). StoresWhole stanza (id_kept x) f t → AreRound (id_kept x) t (names ++ further)) (sym e) (new_round t)
      last_round d t (inr i) = absurd i

pub more_ends : (stanza : Text) (repo : Option Content) (history : List ClusterId) (c : ClusterId) (names : List ArchivedName) (found : List Segment) → IfSome repo (λ f. HaveEnds stanza history f names) → IfSome repo (λ f. AreEnds stanza (id_kept c) f found) →
    IfSome repo (λ f. HaveEnds stanza (history ++ c ∷ []) f (names ++ map (named (id_kept c)) found))
more_ends stanza None history c names found have ends = tt
more_ends stanza (Some f) history c names found have ends = more_have stanza f history c names found have ends

-- the loop's step
pub step_ends : (stanza : Text) (repo : Option Content) (all : List ClusterId) (i : ℕ) (x : ClusterId) (id : ArchiveId) (names after : List ArchivedName) (found : List Segment) → i < length all → id ≡ id_kept (get_or all i x) →
    IfSome repo (λ f. HaveEnds stanza (take i all) f names) → IfSome repo (λ f. AreEnds stanza id f found) → after ≡ names ++ map (named id) found → IfSome repo (λ f. HaveEnds stanza (take (i + 1) all) f after)
step_ends stanza repo all i x id names after found lt of have ends grown =
    let c : ClusterId = get_or all i x in
    let more = more_ends stanza repo (take i all) c names found have (subst (λ (k : ArchiveId). IfSome repo (λ f. AreEnds stanza k f found)) of ends) in
    subst (λ (h : List ClusterId). IfSome repo (λ f. HaveEnds stanza h f after)) (sym (take_more all i x lt))
    (subst (λ (n : List ArchivedName). IfSome repo (λ f. HaveEnds stanza (take i all ++ c ∷ []) f n)) (sym (grown ∙ ap (λ (k : ArchiveId). names ++ map (named k) found) of)) more)
