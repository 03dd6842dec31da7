-- A list of calls continues by one more.
use Rattle.std.proofs.Common.{◌≡◌, inr, Bool, true, false, List, [], ◌∷◌, ◌++◌, Option, Some, None, refl, sym, ap, subst}
use Rattle.std.specs.Prelude.{bytes_eq, if◌then◌else◌, IsSome}
use Rattle.std.proofs.lemmas.Slice.Eq.{bytes_eq-Decides}
use Rattle.base_devices.specs.Content.{Content}
use Rattle.base_model.specs.Text.{Text}
use Rattle.base_model.specs.Repository.{Repository}
use Rattle.base_model.specs.Steps.{Named}
use Rattle.base_model.specs.Log.{Done, Keeps}
use Rattle.base_model.proofs.Begun.{between_image}
use Rattle.base_model.proofs.Logged.{rests_still}
use Rattle.base_model.proofs.Reopened.{IsReopened}
use Rattle.base_crash_lists.specs.Beside.{IsStanza}
use Rattle.base_crash_lists.specs.Trace.{Disks, Call, stopped, went_on, log_of, nothing, Does, AreStill, AreFair}
use Rattle.base_crash_lists.proofs.Kept.{call_keeps, stop_represents, stop_receipts, still_spool}
use Rattle.base_crash_lists.proofs.Opened.{opened_repository, opened_spool, empty_represents, empty_receipts}
use Rattle.program_crashes.specs.Kept.{pushed, IsSince, FromFile, OnLogs, KeepsCalls, StandFor, LeaveCalls, AreThere}
use Rattle.program_crashes.proofs.Files.{is_there}

-- this holds of the same log
pub file_mapped : (n : Named) (P Q : Repository → List Done → Type 0) → ((from : Repository) (log : List Done) → P from log → Q from log) → FromFile n P → FromFile n Q
file_mapped n P Q to h = record { from = h.from; log = h.log; has = h.has; holds = to h.from h.log h.holds }

-- no push is in a log of nothing
none_since : {X : Type 0} (n : Named) (later : List Done) → IsSince n later [] → X
none_since n [] since = let e : ◌≡◌ {A = List Done} [] (pushed n ∷ since.0) = since.1 in cc
none_since n (d ∷ later) since = let e : ◌≡◌ {A = List Done} [] (d ∷ (later ++ pushed n ∷ since.0)) = since.1 in cc

module _ (P Q : Text → Repository → List Done → Type 0) (q : Text → Repository) (earlier calls : List Call) (h : OnLogs P q earlier calls) where
  -- with the same calls
  pub all_mapped : ((s : Text) → IsStanza s → (from : Repository) (log : List Done) → P s from log → Q s from log) → OnLogs Q q earlier calls
  all_mapped to = record {
    logs = λ s is. to s is (q s) (log_of s (calls ++ earlier)) (h.logs s is);
    files = λ s is n later since. file_mapped n (λ from log. P s from (later ++ log)) (λ from log. Q s from (later ++ log)) (λ from log x. to s is from (later ++ log) x) (h.files s is n later since);
  }

  -- with one more
  module _ (c : Call) (to : (s : Text) → IsStanza s → (from : Repository) (log : List Done) → P s from log → Q s from (went_on s c log))
      (new : (n : Named) → c.done ≡ pushed n → FromFile n (λ from log. Q c.stanza from log)) where
    module _ (s : Text) (is : IsStanza s) (n : Named) where
      file_by : (b : Bool) → bytes_eq s c.stanza ≡ b → (later : List Done) → IsSince n later (if b then c.done ∷ log_of s calls else log_of s calls) → FromFile n (λ from log. Q s from (later ++ log))
      file_by false e later since = file_mapped n (λ from log. P s from (later ++ log)) (λ from log. Q s from (later ++ log))
          (λ from log x. subst (λ (b : Bool). Q s from (if b then c.done ∷ (later ++ log) else (later ++ log))) e (to s is from (later ++ log) x)) (h.files s is n later since)
      file_by true e [] since =
          let first : ◌≡◌ {A = List Done} (c.done ∷ log_of s calls) (pushed n ∷ since.0) = since.1 in
          let same : c.stanza ≡ s = sym ((bytes_eq-Decides s c.stanza).0 e) in
          subst (λ (t : Text). FromFile n (λ from log. Q t from log)) same (new n (let k : c.done ≡ pushed n = cc in k))
      file_by true e (d ∷ later) since =
          let both : ◌≡◌ {A = List Done} (c.done ∷ log_of s calls) (d ∷ (later ++ pushed n ∷ since.0)) = since.1 in
          let same : c.done ≡ d = cc in
          let rest : log_of s calls ≡ later ++ pushed n ∷ since.0 = cc in
          file_mapped n (λ from log. P s from (later ++ log)) (λ from log. Q s from (d ∷ (later ++ log)))
          (λ from log x. subst (λ (k : Done). Q s from (k ∷ (later ++ log))) same
          (subst (λ (b : Bool). Q s from (if b then c.done ∷ (later ++ log) else (later ++ log))) e (to s is from (later ++ log) x))) (h.files s is n later (since.0, rest))

    pub all_more : OnLogs Q q earlier (c ∷ calls)
    all_more = record {
      logs = λ s is. to s is (q s) (log_of s (calls ++ earlier)) (h.logs s is);
      files = λ s is n later since. file_by s is n (bytes_eq s c.stanza) refl later since;
    }

-- ---- one call

still_some : (o p : Option Content) → p ≡ o → IsSome o → IsSome p
still_some o p same is = subst (λ (x : Option Content). IsSome x) (sym same) is

module _ (q : Text → Repository) (earlier calls : List Call) (old new : Disks) (h : KeepsCalls q earlier calls old) where
  abbrev Kept : Disks → Text → Repository → List Done → Type 0
  Kept d s from log = Keeps s from log d.repo d.spool

  module _ (c : Call) (fair : AreFair old) (does : Does c old new) where
    pub calls_keep : ((n : Named) → c.done ≡ pushed n → FromFile n (λ from log. Keeps c.stanza from log new.repo new.spool)) → KeepsCalls q earlier (c ∷ calls) new
    calls_keep file = record {
      known = does.known h.known;
      spool_known = does.spool_known h.spool_known;
      keeps = all_more (Kept old) (Kept new) q earlier calls h.keeps c (λ s is from log k. call_keeps c old new fair does h.known h.spool_known s is from log k) file;
    }

    unfinished : (n : Named) → (stopped c).done ≡ pushed n → {X : Type 0} → X
    unfinished n e = let u : ◌≡◌ {A = Bool} false true = ap (λ (d : Done). d.acknowledged) e in cc

    pub calls_leave : LeaveCalls q earlier (stopped c ∷ calls) old new
    calls_leave t u f g within image spool_within spool_image = all_more (Kept old) (StandFor f g) q earlier calls h.keeps (stopped c)
        (λ s is from log k. (
          stop_represents c old new fair does h.known h.spool_known s is from log k t f within.0 within.1 image,
          stop_receipts c old new fair does h.known h.spool_known s is from log k u g spool_within.0 spool_within.1 spool_image,
        )) (λ n e. unfinished n e)

  -- only was read
  module _ (still : AreStill old new) where
    pub calls_still : KeepsCalls q earlier calls new
    calls_still = record {
      known = still_some old.repo.now new.repo.now still.now h.known;
      spool_known = still_some old.spool.now new.spool.now still.spool_now h.spool_known;
      keeps = all_mapped (Kept old) (Kept new) q earlier calls h.keeps (λ s is from log k. record {
        repository = rests_still s from log old.repo new.repo still.time still.now k.repository;
        receipts = still_spool s from log old.spool new.spool still.spool_time still.spool_now k.receipts;
      });
    }

    pub calls_rest : LeaveCalls q earlier calls old new
    calls_rest t u f g within image spool_within spool_image = all_mapped (Kept old) (StandFor f g) q earlier calls h.keeps (λ s is from log k. (
      k.repository.represents f (inr (between_image old.repo new.repo still.time t f within.0 within.1 image)),
      k.receipts.receipts g (inr (between_image old.spool new.spool still.spool_time u g spool_within.0 spool_within.1 spool_image)),
    ))

-- ---- contents

some : (o : Option Content) (f : Content) → o ≡ Some f → IsSome o
some None f e = cc
some (Some g) f e = refl

-- disks that were opened anew on contents of these logs
pub opened_calls : (q : Text → Repository) (earlier calls : List Call) (f g : Content) (d : Disks) → IsReopened f d.repo → IsReopened g d.spool → OnLogs (StandFor f g) q earlier calls → KeepsCalls q earlier calls d
opened_calls q earlier calls f g d repo spool h = record {
  known = some d.repo.now f repo.now;
  spool_known = some d.spool.now g spool.now;
  keeps = all_mapped (StandFor f g) (λ s from log. Keeps s from log d.repo d.spool) q earlier calls h (λ s is from log k. record {
    repository = opened_repository f d.repo repo s from log k.0;
    receipts = opened_spool g d.spool spool s from log k.1;
  });
}

-- nothing is of no calls
pub no_calls : OnLogs (StandFor nothing nothing) (λ _. None) [] []
no_calls = record {
  logs = λ s is. (empty_represents s, empty_receipts s);
  files = λ s is n later since. none_since n later since;
}

-- each file that was pushed is there
pub are_there : (q : Text → Repository) (earlier calls : List Call) (d : Disks) → KeepsCalls q earlier calls d → AreThere calls d.repo
are_there q earlier calls d h s is n later since f leaves = is_there s n later f
    (file_mapped n (λ from log. Keeps s from (later ++ log) d.repo d.spool) _ (λ from log k. k.repository.represents f leaves) (h.keeps.files s is n later since))
