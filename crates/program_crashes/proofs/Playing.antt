-- From the calls of `run` to acts over devices in memory.
use Rattle.std.proofs.Common.{◌≡◌, ℕ, List, [], ◌∷◌, ◌++◌, Option, Some, None, Result, Ok, Err, refl, sym, ap, subst, map, is_some}
use Rattle.std.specs.Prelude.{IfOk, String, Vec, option_map, string_bytes, if◌then◌else◌}
use Rattle.std.specs.declared.alloc.Global.{Global}
use Rattle.base_devices.specs.Content.{Content}
use Rattle.base_model.specs.Repository.{Repository}
use Rattle.base_model.specs.Text.{Text}
use Rattle.base_crash_lists.specs.Trace.{Call, stopped, nothing}
use Rattle.cmd_trait.specs.KnownWorld.{known_world}
use Rattle.program_run.specs.Asked.{asked}
use Rattle.memory_devices.specs.declared.disk.MemDisk.{MemDisk}
use Rattle.memory_devices.specs.Held.{view_of, StartsWith}
use Rattle.memory_devices.specs.State.{given_at}
use Rattle.base_model.proofs.Reopened.{IsReopened}
use Rattle.program_crashes.specs.declared.call_or_crash.Act.{Act}
use Rattle.program_crashes.specs.declared.call_or_crash.CrashPoint.{CrashPoint}
use Rattle.program_crashes.specs.declared.call_or_crash.Ended.{Ended}
use Rattle.program_crashes.specs.declared.disks.Disks.{Disks as Pair}
use Rattle.program_crashes.specs.Acts.{grown}
use Rattle.program_crashes.specs.Kept.{KeepsCalls}
use Rattle.program_crashes.specs.Led.{Went}
use Rattle.program_crashes.specs.Lists.{views, arguments_of, world_before, world_after, EndsCall, KeepsStanza, LeadsCall, HaveOthers, HasOthers, AreLeft, IsDiskLeft, IsLeft, IsAfter, logged, IsPlayed, ArePlayed, PlaysOne, KeepsHeld}
use Rattle.program_crashes.proofs.Carried.{opened_calls, no_calls}
use Rattle.program_crashes.proofs.Going.{turns_known}

-- ---- an act

module _ (x : Act) (e : Ended) (old left : Pair) (call : EndsCall x e old left) (stanza : KeepsStanza x e) (leads : LeadsCall x e old left) where
  -- its data folder is known, and so is what others did, for the stanza that is asked for
  led : HasOthers x → (q : Text → Repository) (earlier before : List Call) → KeepsCalls q earlier before (views old) → Went q earlier before (arguments_of x) (world_before x old) (world_after e left) e.status
  led others q earlier before h = leads.went refl
      (λ s asks. turns_known (asked s).at (asked s).means (known_world (world_after e left)) (string_bytes x.others.stanza) (others s asks) stanza) q earlier before h

  -- its call went to its end
  pub ends_here : x.halt ≡ None → PlaysOne x e old left
  ends_here none others q earlier before h =
      let w = led others q earlier before h in (
        w.made,
        record { left = left; call = call; stanza = stanza; is = w.is; next = subst (λ (o : Option CrashPoint). IsAfter o old left left) (sym none) refl },
        subst (λ (o : Option CrashPoint). KeepsCalls q earlier (grown (if is_some o then option_map stopped w.made else w.made) before) (views left)) (sym none) w.keeps,
      )

  -- or was stopped
  pub stops_here : (halt : CrashPoint) → x.halt ≡ Some halt → (opened : Pair) → AreLeft halt old left opened → PlaysOne x e old opened
  stops_here halt is opened l others q earlier before h =
      let w = led others q earlier before h in (
        w.made,
        record { left = left; call = call; stanza = stanza; is = w.is; next = subst (λ (o : Option CrashPoint). IsAfter o old left opened) (sym is) l },
        subst (λ (o : Option CrashPoint). KeepsCalls q earlier (grown (if is_some o then option_map stopped w.made else w.made) before) (views opened)) (sym is)
            (opened_calls q earlier (grown (option_map stopped w.made) before) l.repo.content l.spool.content (views opened) l.repo.reopened l.spool.reopened
            (w.leaves halt.repo.moment halt.spool.moment l.repo.content l.spool.content (l.repo.from, l.repo.to) l.repo.image (l.spool.from, l.spool.to) l.spool.image)),
      )

pub left_from : (disk : MemDisk) (from first moment : ℕ) (opened : MemDisk) → from ≡ first → IsDiskLeft disk from moment opened → IsDiskLeft disk first moment opened
left_from disk from first moment opened same h = subst (λ (t : ℕ). IsLeft (view_of disk.held) t moment (view_of opened.held)) same h

-- ---- a list of acts

pub grown_first : (made : Option Call) (before earlier : List Call) → grown made before ++ earlier ≡ grown made (before ++ earlier)
grown_first None before earlier = refl
grown_first (Some c) before earlier = refl

pub played_more : (q : Text → Repository) (xs : List Act) (es : List Ended) (x : Act) (e : Ended) (old mid new : Pair) (before after : List Call) (made : Option Call) →
    ArePlayed q xs es old mid before after → IsPlayed q after x e mid new made → ArePlayed q (xs ++ x ∷ []) (es ++ e ∷ []) old new before (grown (logged x made) after)
played_more q [] [] x e old mid new before after made p h = (
  new,
  made,
  subst (λ (d : Pair). IsPlayed q before x e d new made) p.0 (subst (λ (calls : List Call). IsPlayed q calls x e mid new made) p.1 h),
  (refl, ap (grown (logged x made)) p.1),
)
played_more q [] (f ∷ es) x e old mid new before after made p h = absurd p
played_more q (y ∷ xs) [] x e old mid new before after made p h = absurd p
played_more q (y ∷ xs) (f ∷ es) x e old mid new before after made p h = (p.0, p.1, p.2, played_more q xs es x e p.0 mid new (grown (logged y p.1) before) after made p.3 h)

pub have_more : (xs : List Act) (x : Act) → HaveOthers (xs ++ x ∷ []) → HaveOthers xs × HasOthers x
have_more [] x h = (tt, h.0)
have_more (y ∷ xs) x h = let z = have_more xs x h.1 in ((h.0, z.0), z.1)

pub map_same : {X : Type 0} (xs : List X) → map (λ y. y) xs ≡ xs
map_same [] = refl
map_same (x ∷ xs) = ap (λ ys. x ∷ ys) (map_same xs)

-- ---- where a list begins

pub starts_reopened : (f : Content) (d : MemDisk) → StartsWith f (view_of d.held) → IsReopened f (view_of d.held)
starts_reopened f d s = record { now = s.now; kept = s.kept; synced = s.synced }

pub held_keeps : (f g : Content) (d : Pair) → StartsWith f (view_of d.repo.held) → StartsWith g (view_of d.spool.held) → KeepsHeld f g d
held_keeps f g d repo spool q earlier calls h = opened_calls q earlier calls f g (views d) (starts_reopened f d.repo repo) (starts_reopened g d.spool spool) h

pub none_held : {E : Type 0} (r : Result Pair E) (repo spool : List (String Global × Vec ℕ Global)) → repo ≡ [] → spool ≡ [] → IfOk r (KeepsHeld (given_at repo) (given_at spool)) → IfOk r (λ d. KeepsCalls (λ _. None) [] [] (views d))
none_held (Err e) repo spool p q h = tt
none_held (Ok d) repo spool p q h =
    let k : KeepsHeld nothing nothing d = subst (λ (xs : List (String Global × Vec ℕ Global)). KeepsHeld nothing (given_at xs) d) q
    (subst (λ (xs : List (String Global × Vec ℕ Global)). KeepsHeld (given_at xs) (given_at spool) d) p h) in
    k (λ _. None) [] [] no_calls
