-- A wait for steps of others as a command's way, and what it leaves of a stanza.
use Rattle.std.proofs.Common.{◌≡◌, ⊎_elim, inl, Bool, true, false, List, [], ◌∷◌, ◌++◌, map, length, None, refl, sym, ◌∙◌, ap, subst}
use Rattle.std.specs.Prelude.{IsSome, if◌then◌else◌}
use Rattle.std.specs.List.{flat_map}
use Rattle.sha1.specs.Sha1.{sha1}
use Rattle.base_devices.specs.Content.{Content}
use Rattle.base_devices.specs.Moments.{View}
use Rattle.base_devices.specs.Crash.{Leaves}
use Rattle.base_model.specs.declared.clusters.Cluster.{Cluster}
use Rattle.base_model.specs.declared.wal.ArchiveId.{ArchiveId}
use Rattle.base_model.specs.Text.{Text}
use Rattle.base_model.specs.Values.{BackupInfo}
use Rattle.base_model.specs.Repository.{Archived, Backup, Stanza, Repository, IsSound}
use Rattle.base_model.specs.Represents.{Represents, backup_value}
use Rattle.base_model.specs.Steps.{Step, Push, Note, Move, One, Any, Turn, Named, Command, ArchivePushAsync, after, after_all, all_of, steps_of, is_archived, push_of, store_of, stores_of, archived_of, turn_moves}
use Rattle.base_model.specs.Log.{Done, KeepsRepository, RepresentsAfter, Leads}
use Rattle.base_model.specs.Steady.{IsSteady, EachImage}
use Rattle.base_model.proofs.Turned.{store_either}
use Rattle.base_model.proofs.Waited.{all_after, steps as own_steps}
use Rattle.cmd_types.specs.DisksEffect.{IsPart}
use Rattle.backup_lemmas.specs.Backups.{Waits}
use Rattle.backup_lemmas.proofs.Begun.{known_as}

-- ---- from a disk that is steady at one repository

module _ (stanza : Text) (turns : List Turn) (ended : Bool) (c w : View) (waits : Waits stanza turns ended c w) (known : IsSome c.now) (r : Repository) (sound : IsSound r) (steady : IsSteady stanza r c) where
  abbrev wait : Command
  wait = ArchivePushAsync turns

  abbrev entry : Bool → Done
  entry whole = record { command = ArchivePushAsync turns; acknowledged = whole }

  begun : KeepsRepository stanza r [] c
  begun = record {
    fixed = steady.fixed;
    places = steady.places;
    represents = λ f leaves. record { repository = r; reached = refl; sound = sound; represents = steady.represents f leaves };
  }

  kept : KeepsRepository stanza r (entry ended ∷ []) w
  kept = waits.carries.keeps r [] known begun

  part_of : (f : Content) → RepresentsAfter stanza r (entry false ∷ []) f → IsPart stanza wait r f
  part_of f x =
      let l = subst (λ (m : Repository). Leads (entry false) m x.repository) x.reached.1 x.reached.2 in
      (l.0, l.2, subst (λ (m : Repository). Represents stanza f m) l.1 x.represents, subst IsSound l.1 x.sound)

  -- it changes by a part of the steps of others
  pub waits_moves : EachImage stanza (IsPart stanza (ArchivePushAsync turns) r) c w
  waits_moves = record {
    later = waits.only.time.later;
    past = waits.only.time.same;
    past_unsynced = waits.only.time.same_unsynced;
    known = waits.does.known known;
    fixed = kept.fixed;
    places = kept.places;
    leaves = λ m f lo hi leaves. part_of f (waits.between.between r [] known begun m f lo hi leaves);
  }

  -- and by all of those that succeeded
  module _ (is : ended ≡ true) where
    whole_of : (f : Content) → Leaves w w.moment f → Represents stanza f (after r (all_of (steps_of (ArchivePushAsync turns) r))) × IsSound (after r (all_of (steps_of (ArchivePushAsync turns) r)))
    whole_of f leaves =
        let x = subst (λ (e : Bool). RepresentsAfter stanza r (entry e ∷ []) f) is (kept.represents f leaves) in
        let l = subst (λ (m : Repository). Leads (entry true) m x.repository) x.reached.1 x.reached.2 in
        let all : x.repository ≡ after r (all_of (steps_of wait r)) = l.1 ∙ ap (after r) l.2 in
        (subst (λ (m : Repository). Represents stanza f m) all x.represents, subst IsSound all x.sound)

    pub waits_steady : IsSteady stanza (after r (all_of (steps_of (ArchivePushAsync turns) r))) w
    waits_steady = record { fixed = kept.fixed; places = kept.places; represents = λ f leaves. (whole_of f leaves).0 }

    pub waits_sound : IsSound (after r (all_of (steps_of (ArchivePushAsync turns) r)))
    waits_sound = let f = known_as w.now (waits.does.known known) in (whole_of f.0 (inl f.1)).1

-- ---- the list stays

abbrev Alike : Stanza → Stanza → Type 0
Alike s t = (t.history ≡ s.history) × (t.backups ≡ s.backups)

abbrev LeaveList : List Step → Type 0
LeaveList steps = (s : Stanza) → Alike s (after_all s steps)

leave_both : (xs ys : List Step) → LeaveList xs → LeaveList ys → LeaveList (xs ++ ys)
leave_both xs ys first second s =
    let a = first s in
    let b = second (after_all s xs) in
    let same = sym (all_after s xs ys) in
    (subst (λ (t : Stanza). t.history ≡ s.history) same (b.0 ∙ a.0), subst (λ (t : Stanza). t.backups ≡ s.backups) same (b.1 ∙ a.1))

push_leaves : (s : Stanza) (a : Archived) → LeaveList (push_of s a)
push_leaves s a = by (is_archived a s.archived)
  where
    by : (b : Bool) → LeaveList (if b then [] else Push a ∷ [])
    by true = λ t. (refl, refl)
    by false = λ t. (refl, refl)

store_leaves : (s : Stanza) (id : ArchiveId) (n : Named) → LeaveList (store_of s id n)
store_leaves s id n = ⊎_elim
    (λ (e : store_of s id n ≡ []). subst LeaveList (sym e) (λ t. (refl, refl)))
    (λ (e : store_of s id n ≡ push_of s (archived_of id n) ++ Note (record { name = n.name; sum = sha1 n.bytes }) ∷ []).
    subst LeaveList (sym e) (leave_both (push_of s (archived_of id n)) (Note (record { name = n.name; sum = sha1 n.bytes }) ∷ []) (push_leaves s (archived_of id n)) (λ t. (refl, refl))))
    (store_either id n s)

stores_leave : (s : Stanza) (id : ArchiveId) (ns : List Named) → LeaveList (flat_map (λ g. g) (stores_of s id ns))
stores_leave s id [] = λ t. (refl, refl)
stores_leave s id (n ∷ ns) = leave_both (store_of s id n) (flat_map (λ g. g) (stores_of (after_all s (store_of s id n)) id ns)) (store_leaves s id n) (stores_leave (after_all s (store_of s id n)) id ns)

ones_then : (steps : List Step) (moves : List Move) → all_of (map One steps ++ moves) ≡ steps ++ all_of moves
ones_then [] moves = refl
ones_then (t ∷ steps) moves = ap (λ (l : List Step). t ∷ l) (ones_then steps moves)

turns_leave : (s : Stanza) (turns : List Turn) → LeaveList (all_of (turn_moves s turns))
turns_leave s [] = λ t. (refl, refl)
turns_leave s (t ∷ ts) = by t.ended (leave_both (own_steps s t) (all_of (turn_moves (after_all s (own_steps s t)) ts)) (stores_leave s t.id t.pushed) (turns_leave (after_all s (own_steps s t)) ts))
  where
    by : (ended : Bool) → LeaveList (own_steps s t ++ all_of (turn_moves (after_all s (own_steps s t)) ts)) → LeaveList (all_of ((if ended then map One (own_steps s t) else Any (stores_of s t.id t.pushed) ∷ []) ++ turn_moves (after_all s (own_steps s t)) ts))
    by true both = subst LeaveList (sym (ones_then (own_steps s t) (turn_moves (after_all s (own_steps s t)) ts))) both
    by false both = both

-- the stanza after steps of others
abbrev pub waited : Stanza → List Turn → Stanza
waited s turns = after_all s (all_of (turn_moves s turns))

-- has the same list
pub list_waited : (s : Stanza) (turns : List Turn) → backup_value (waited s turns) None ≡ backup_value s None
list_waited s turns =
    let a = turns_leave s turns s in
    ap (λ (cs : List Cluster). (let v : BackupInfo = record { current = length cs; history = cs; backups = map (λ (b : Backup). b.entry) (waited s turns).backups } in v)) a.0
    ∙ ap (λ (bs : List Backup). (let v : BackupInfo = record { current = length s.history; history = s.history; backups = map (λ (b : Backup). b.entry) bs } in v)) a.1

pub backups_waited : (s : Stanza) (turns : List Turn) → (waited s turns).backups ≡ s.backups
backups_waited s turns = (turns_leave s turns s).1
