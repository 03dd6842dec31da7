-- What a wait knows of steps of others.
use Rattle.std.proofs.Common.{◌≡◌, List, [], ◌∷◌, ◌++◌, Option, Some, None, refl, sym, ap, ◌∙◌, subst, Bool, true, append_assoc, IsSome}
use Rattle.std.specs.Prelude.{IfSome}
use Rattle.std.proofs.Math.Bool.{and-true}
use Rattle.std.proofs.lemmas.List.{map-append, append-nil}
use Rattle.base_devices.specs.Moments.{View, LeavesNoMore}
use Rattle.base_disk.proofs.Changes.{only_on, only_none, only_rests}
use Rattle.base_model.specs.Steps.{Turn}
use Rattle.archive_lookup.specs.Stored.{ChangesArchive}
use Rattle.archive_lookup.specs.Turns.{Turned, Account, GoesOn, GoesOnBy, OnTurn, GoesByTurn, GivesReceipts}
use Rattle.archive_wait.specs.TurnsDone.{all_ended, turns_of, GoesByTurns, MarksByTurns, TurnsDone}
use Rattle.archive_wait.proofs.Folds.{still_goes, one_goes, goes_after, both_ended}
use Rattle.archive_wait.proofs.Marks.{none_marks, one_marks, marks_after}

-- ---- one step of others

pub turn_went : (ended : Bool) (old new : Option Account) (a b s t : View) → GoesOn ended old new →
    OnTurn old new (λ stanza t. GoesByTurn stanza t.turn a b) → OnTurn old new (λ stanza t. ChangesArchive stanza a b) →
    OnTurn old new (λ stanza _. ChangesArchive stanza s t) →
    OnTurn old new (λ stanza k. GivesReceipts stanza k.turn a b s t) → (IsSome s.now → IsSome t.now) →
    IfSome new (λ k. TurnsDone ended old k a b s t)
turn_went ended old None a b s t on goes repo spool gives known = tt
turn_went ended old (Some k) a b s t on goes repo spool gives known =
    let x = on refl in
    let by : GoesOnBy x.1 x.0 old (Some k) = x.2 in
    let e : k ≡ record { stanza = x.0; turns = by.before ++ x.1 ∷ [] } = (let h = by.is in cc) in
    subst (λ (o : Account). TurnsDone ended old o a b s t) (sym e) (record {
      before = by.before;
      turned = x.1 ∷ [];
      was = by.was;
      is = refl;
      ended = λ w. and-true x.1.turn.ended ∙ x.3 ∙ w;
      repository = one_goes x.0 x.1.turn a b (goes x.0 x.1 by);
      spool = one_marks x.0 x.1.turn a b s t (goes x.0 x.1 by) (gives x.0 x.1 by) (spool x.0 x.1 by) known;
      repo_only = repo x.0 x.1 by;
      spool_only = spool x.0 x.1 by;
    })

-- ---- none

pub none_went : (whole : Bool) (o : Option Account) (a b s : View) → LeavesNoMore a b → b.now ≡ a.now →
    IfSome o (λ k. TurnsDone whole o k a b s s)
none_went whole None a b s rests same = tt
none_went whole (Some k) a b s rests same = record {
  before = k.turns;
  turned = [];
  was = refl;
  is = sym (append-nil k.turns);
  ended = λ w. refl;
  repository = still_goes k.stanza a b rests same;
  spool = none_marks k.stanza a s;
  repo_only = only_rests _ a b rests same;
  spool_only = only_none _ s;
}

-- ---- some, and then more of them

module _ (whole : Bool) (old mid : Option Account) (a b c s t u : View) where
  both : (m new : Account) → mid ≡ Some m → TurnsDone true old m a b s t → TurnsDone whole mid new b c t u → TurnsDone whole old new a c s u
  both m new is p q =
      let same : m ≡ record { stanza = new.stanza; turns = q.before } = (let h = sym is ∙ q.was in cc) in
      let first = subst (λ (k : Account). TurnsDone true old k a b s t) same p in
      let turns : turns_of first.turned ++ turns_of q.turned ≡ turns_of (first.turned ++ q.turned) =
      sym (map-append (λ (t : Turned). t.turn) first.turned q.turned) in
      record {
        before = first.before;
        turned = first.turned ++ q.turned;
        was = first.was;
        is = q.is ∙ ap (λ (l : List Turned). l ++ q.turned) first.is ∙ append_assoc first.before first.turned q.turned;
        ended = λ w. subst (λ (l : List Turn). all_ended l ≡ true) turns
            (both_ended new.stanza (turns_of first.turned) (turns_of q.turned) a b c (first.ended refl) (q.ended w));
        repository = subst (λ (l : List Turn). GoesByTurns new.stanza l a c) turns
            (goes_after new.stanza (turns_of first.turned) (turns_of q.turned) a b c (first.ended refl) first.repository q.repository q.repo_only);
        spool = subst (λ (l : List Turn). MarksByTurns new.stanza l a s u) turns
            (marks_after new.stanza (turns_of first.turned) (turns_of q.turned) a b s t u (first.ended refl) first.repository first.spool q.spool q.spool_only);
        repo_only = only_on _ a b c first.repo_only q.repo_only;
        spool_only = only_on _ s t u first.spool_only q.spool_only;
      }

  pub went_after : (new : Option Account) → IfSome mid (λ m. TurnsDone true old m a b s t) →
      IfSome new (λ k. TurnsDone whole mid k b c t u) → IfSome new (λ k. TurnsDone whole old k a c s u)
  went_after None p q = tt
  went_after (Some k) p q = by mid refl p
    where
      by : (o : Option Account) → mid ≡ o → IfSome o (λ m. TurnsDone true old m a b s t) → TurnsDone whole old k a c s u
      by None e p = (let h = sym e ∙ q.was in cc)
      by (Some m) e p = both m k e p q
