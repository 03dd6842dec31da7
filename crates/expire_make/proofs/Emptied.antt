-- All files that aren't needed are removed, where those under the ids of a sound stanza's clusters are.
use Rattle.std.proofs.Common.{◌≡◌, ⊎_elim, inl, Bool, false, List, map, Option, Some, None, refl, ◌∙◌, sym, subst, IsTrue}
use Rattle.std.specs.Prelude.{IsSome}
use Rattle.sha1.specs.Sha1.{sha1}
use Rattle.base_text.specs.Sum.{sum_text}
use Rattle.base_devices.specs.Content.{Name, Value, Content, Holds, is_below}
use Rattle.base_devices.specs.Moments.{View, GrowsBy, MayKeep, is_unsynced}
use Rattle.base_devices.specs.Crash.{Ends, NowChanges}
use Rattle.base_devices.proofs.Crashes.{unknown}
use Rattle.base_devices.proofs.Nows.{known_as}
use Rattle.base_disk.proofs.Images.{Law}
use Rattle.base_disk.proofs.Below.{below_prefix}
use Rattle.base_disk.specs.Dropped.{IsAbsent}
use Rattle.base_model.specs.declared.clusters.Cluster.{Cluster}
use Rattle.base_model.specs.declared.clusters.ClusterId.{ClusterId}
use Rattle.base_model.specs.declared.wal.ArchiveId.{ArchiveId}
use Rattle.base_model.specs.declared.wal.ArchiveName.{ArchiveName}
use Rattle.base_model.specs.Text.{Text, In, ◌⫽◌}
use Rattle.base_model.specs.Names.{archive_folder, id_text, archive_text}
use Rattle.base_model.specs.Repository.{Archived, Stanza, identity_of, id_of}
use Rattle.base_model.specs.Represents.{HasStanza, IsArchiveFile}
use Rattle.base_model.specs.Now.{NowRepresents}
use Rattle.base_model.specs.Log.{File as FileName}
use Rattle.base_model.specs.Steady.{IsSteady}
use Rattle.repo_keys.proofs.Numbers.{in_map}
use Rattle.expire_make.specs.Losing.{Loses, LosesAll, IsUnneeded}
use Rattle.expire_make.specs.Unneeded.{id_in, ids_in}
use Rattle.expire_make.proofs.Forgets.{one_name}
use Rattle.expire_make.proofs.Losses.{lost_ends}

-- each archived file is under the id of a cluster of the history
abbrev pub AreUnder : Stanza → Type 0
AreUnder s = (a : Archived) → In a s.archived → (c : Cluster) × In c s.history × (a.id ≡ id_of c)

module _ (stanza : Text) (keeps : ArchiveId → ArchiveName → Bool) (s : Stanza) (under : AreUnder s) (history : List ClusterId) (history_is : history ≡ map identity_of s.history) where
  abbrev These : Name → Type 0
  These n = IsUnneeded stanza keeps n

  file_of : (n : Text) → IsUnneeded stanza keeps n → IsArchiveFile stanza n
  file_of n u = record { id = u.id; file = u.file; sum = u.sum; fits = u.fits; is = u.is }

  -- the id of a file that f has is one of them
  under_one : (f : Content) → HasStanza stanza f s → (n bytes : Text) → (u : IsUnneeded stanza keeps n) → f n ≡ Some bytes → In u.id (ids_in history)
  under_one f h n bytes u is =
      let (a, i, named, b) = (h.archived n bytes (file_of n u)).0 is in
      let who = one_name stanza a.id u.id a.name u.file (sha1 a.bytes) u.sum (h.named a i) u.fits (sym named ∙ u.is) in
      let (c, in_c, id) = under a i in
      let there : In (id_of c) (ids_in (map identity_of s.history)) = in_map id_in (map identity_of s.history) (identity_of c) (in_map identity_of s.history c in_c) in
      subst (λ (cs : List ClusterId). In u.id (ids_in cs)) (sym history_is) (subst (λ (k : ArchiveId). In k (ids_in (map identity_of s.history))) (sym id ∙ who.0) there)

  module _ (c d : View) (part : NowChanges (Loses (IsUnneeded stanza keeps)) c.now d.now) (gone : (n : Name) → (u : IsUnneeded stanza keeps n) → In u.id (ids_in history) → IsAbsent d.now n) where
    absent : (f g : Content) → HasStanza stanza f s → Loses (IsUnneeded stanza keeps) f g → d.now ≡ Some g → (n : Name) → IsUnneeded stanza keeps n → g n ≡ None
    absent f g h loses is n u = by (f n) refl
      where
        by : (v : Value) → f n ≡ v → g n ≡ None
        by None none = ⊎_elim (λ (e : g n ≡ f n). e ∙ none) (λ (x : IsUnneeded stanza keeps n × (g n ≡ None)). x.1) (loses n)
        by (Some b) at = let k : IsAbsent (Some g) n = subst (λ (o : Option Content). IsAbsent o n) is (gone n u (under_one f h n b u at)) in k

    pub all_now : NowRepresents stanza (Some s) c.now → NowChanges (LosesAll (IsUnneeded stanza keeps)) c.now d.now
    all_now represents = record { known = part.known; goes = λ f g was now. let loses = part.goes f g was now in record { loses = loses; gone = absent f g (represents.represents f was) loses now } }

    pub all_ends : IsSteady stanza (Some s) c → Law c → GrowsBy (λ n v. IsUnneeded stanza keeps n × (v ≡ None)) (λ _. ⊥) c d
        → ((n : Name) (v : Value) → IsTrue (is_below (archive_folder stanza) n) → is_unsynced c n ≡ false → MayKeep d n v → Holds d.now n v) → Ends (LosesAll (IsUnneeded stanza keeps)) c d
    all_ends steady law goes settled = by c.now refl
      where
        synced : (n : Name) → IsUnneeded stanza keeps n → is_unsynced c n ≡ false
        synced n u = steady.fixed n (FileName (file_of n u))

        below : (n : Name) → IsUnneeded stanza keeps n → IsTrue (is_below (archive_folder stanza) n)
        below n u = below_prefix (archive_folder stanza) (id_text u.id ⫽ archive_text u.file (sum_text u.sum)) n u.is

        by : (o : Option Content) → c.now ≡ o → Ends (LosesAll (IsUnneeded stanza keeps)) c d
        by None none = record { comes = λ s g leaves. absurd (unknown c.now none s) }
        by (Some f) is =
            let all = all_now (record { represents = λ f is. steady.represents f (inl is) }) in
            let g = known_as d.now (part.known (subst (λ (o : Option Content). IsSome o) (sym is) refl)) in
            lost_ends These c d goes law synced (λ n v u keep. let h : Holds (Some g.0) n v = subst (λ (o : Option Content). Holds o n v) g.1 (settled n v (below n u) (synced n u) keep) in h ∙ (all.goes f g.0 is g.1).gone n u) all
