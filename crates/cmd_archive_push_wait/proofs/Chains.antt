-- Steps of others one after the other, and looks at the spool between them.
use Rattle.std.proofs.Common.{◌≡◌, ⊎_elim, ◌≤◌, ℕ, List, [], ◌∷◌, ◌++◌, Option, Some, refl, sym, ap, ◌∙◌, subst, arith, Bool, true, false, append_assoc}
use Rattle.std.specs.Prelude.{IsSome}
use Rattle.std.proofs.Math.Bool.{and-true}
use Rattle.std.proofs.lemmas.List.{map-append, append-nil}
use Rattle.base_devices.specs.Content.{Content}
use Rattle.base_devices.specs.Crash.{Leaves}
use Rattle.base_devices.specs.Moments.{View}
use Rattle.base_disk.proofs.Changes.{only_on, only_none}
use Rattle.base_disk.proofs.Images.{Law}
use Rattle.base_model.specs.declared.wal.ArchiveName.{ArchiveName}
use Rattle.base_model.specs.Text.{Text, In}
use Rattle.base_model.specs.Repository.{Repository}
use Rattle.base_model.specs.Represents.{IsWalName}
use Rattle.base_model.specs.Steps.{Turn, Named}
use Rattle.base_model.specs.Log.{Done, Keeps, Reaches, HasReceipt, IsDrained}
use Rattle.sha1.specs.Sha1.{sha1}
use Rattle.archive_lookup.specs.Stored.{ChangesArchive}
use Rattle.archive_store.specs.Still.{rests_none}
use Rattle.archive_lookup.specs.Turns.{Turned, Account, GoesOnBy, HadReceipt}
use Rattle.archive_spool.specs.Marks.{GivesMarks}
use Rattle.archive_spool.proofs.Receipts.{marks_receipts, marks_synced}
use Rattle.archive_wait.specs.TurnsDone.{all_ended, turns_of, GoesByTurns, MarksByTurns, TurnsDone}
use Rattle.archive_wait.proofs.Folds.{still_goes, one_goes, goes_after, both_ended}
use Rattle.archive_wait.proofs.Marks.{none_more, one_marks, marks_after}
use Rattle.archive_wait.proofs.EachImage.{entry}
use Rattle.cmd_archive_push_wait.specs.Leaving.{HadTurn, entry_of}

-- ---- a look at the spool

-- it is no step of others, and gives no receipt
pub look_marks : (stanza : Text) (repo spool new_spool : View) → Law spool → Law new_spool → GivesMarks stanza [] spool new_spool →
    (IsSome spool.now → IsSome new_spool.now) → MarksByTurns stanza [] repo spool new_spool
look_marks stanza repo spool new_spool law new_law marks known = record {
  known = known;
  keeps = λ q log some spool_known keeps. record {
    fixed = λ name fits. marks_synced stanza [] spool new_spool marks keeps.receipts.fixed new_spool.moment marks.later (omega arith) name fits;
    receipts = λ f leaves name sum fits has.
        let x = earlier q log spool_known keeps new_spool.moment f marks.later (omega arith) leaves name sum fits has in
        (x.0, none_more true q log x.0 x.1, x.2);
  };
  between = λ q log some spool_known keeps m f lo hi leaves name sum fits has.
      let x = earlier q log spool_known keeps m f lo hi leaves name sum fits has in (x.0, none_more false q log x.0 x.1, x.2);
}
  where
    earlier : (q : Repository) (log : List Done) → IsSome spool.now → Keeps stanza q log repo spool → (m : ℕ) (f : Content) →
        spool.moment ≤ m → m ≤ new_spool.moment → Leaves new_spool m f → (name : ArchiveName) (sum : Text) → IsWalName name →
        HasReceipt stanza f name sum → (r : Repository) × Reaches q log r × IsDrained r name sum
    earlier q log some keeps m f lo hi leaves name sum fits has = ⊎_elim
        (λ (h : HadReceipt stanza spool name sum). keeps.receipts.receipts h.0 h.1 name sum fits h.2)
        (λ (h : (n : Named) × In n [] × (n.name ≡ name) × (sha1 n.bytes ≡ sum)). absurd h.1)
        (marks_receipts stanza [] spool new_spool law new_law marks some keeps.receipts.fixed m f lo hi leaves name sum fits has)

-- ---- steps of others, and then more

module _ (whole : Bool) (old : Option Account) (new : Account) (a b c s t u : View) where
  pub went_on : (m : Account) (p : TurnsDone true old m a b s t) (q : TurnsDone whole (Some m) new b c t u) →
      (r : TurnsDone whole old new a c s u) × (r.turned ≡ p.turned ++ q.turned)
  went_on m p q =
      let same : record { stanza = new.stanza; turns = q.before } ≡ m = (let h = q.was in cc) in
      subst (λ (k : Account). (first : TurnsDone true old k a b s t) → (r : TurnsDone whole old new a c s u) × (r.turned ≡ first.turned ++ q.turned))
      same (λ first. joined first) p
    where
      joined : (first : TurnsDone true old (record { stanza = new.stanza; turns = q.before }) a b s t) →
          (r : TurnsDone whole old new a c s u) × (r.turned ≡ first.turned ++ q.turned)
      joined first =
          let turns : turns_of first.turned ++ turns_of q.turned ≡ turns_of (first.turned ++ q.turned) =
          sym (map-append (λ (t : Turned). t.turn) first.turned q.turned) in (
            record {
              before = first.before;
              turned = first.turned ++ q.turned;
              was = first.was;
              is = q.is ∙ ap (λ (l : List Turned). l ++ q.turned) first.is ∙ append_assoc first.before first.turned q.turned;
              ended = λ w. subst (λ (l : List Turn). all_ended l ≡ true) turns
                  (both_ended new.stanza (turns_of first.turned) (turns_of q.turned) a b c (first.ended refl) (q.ended w));
              repository = subst (λ (l : List Turn). GoesByTurns new.stanza l a c) turns
                  (goes_after new.stanza (turns_of first.turned) (turns_of q.turned) a b c (first.ended refl) first.repository q.repository q.repo_only);
              spool = subst (λ (l : List Turn). MarksByTurns new.stanza l a s u) turns
                  (marks_after new.stanza (turns_of first.turned) (turns_of q.turned) a b s t u (first.ended refl) first.repository first.spool q.spool q.spool_only);
              repo_only = only_on _ a b c first.repo_only q.repo_only;
              spool_only = only_on _ s t u first.spool_only q.spool_only;
            },
            refl,
          )

-- and then a look at the spool
module _ (k : Account) (b t u : View) (law : Law t) (new_law : Law u) (marks : GivesMarks k.stanza [] t u) (known : IsSome t.now → IsSome u.now)
    (only : ChangesArchive k.stanza t u) where
  pub look_went : (whole : Bool) → (r : TurnsDone whole (Some k) k b b t u) × (r.turned ≡ [])
  look_went whole = (
    record {
      before = k.turns;
      turned = [];
      was = refl;
      is = sym (append-nil k.turns);
      ended = λ w. refl;
      repository = still_goes k.stanza b b (rests_none b) refl;
      spool = look_marks k.stanza b t u law new_law marks known;
      repo_only = only_none _ b;
      spool_only = only;
    },
    refl,
  )

  pub went_look : (old : Option Account) (a s : View) (p : TurnsDone true old k a b s t) → (r : TurnsDone true old k a b s u) × (r.turned ≡ p.turned)
  went_look old a s p =
      let l = look_went true in
      let x = went_on true old k a b b s t u k p l.0 in
      (x.0, x.1 ∙ ap (λ (z : List Turned). p.turned ++ z) l.1 ∙ append-nil p.turned)

-- whatever the answer is
pub went_any : (whole : Bool) (old : Option Account) (k : Account) (a b s t : View) → TurnsDone true old k a b s t → TurnsDone whole old k a b s t
went_any whole old k a b s t w = record {
  before = w.before;
  turned = w.turned;
  was = w.was;
  is = w.is;
  ended = λ e. w.ended refl;
  repository = w.repository;
  spool = w.spool;
  repo_only = w.repo_only;
  spool_only = w.spool_only;
}

-- ---- what the two disks keep after steps of others that succeeded

pub went_keeps : (old : Option Account) (k : Account) (a b s t : View) (p : TurnsDone true old k a b s t) (q : Repository) (log : List Done) →
    IsSome a.now → IsSome s.now → Keeps k.stanza q log a s → Keeps k.stanza q (entry_of p.turned ∷ log) b t
went_keeps old k a b s t p q log some known keeps =
    subst (λ (w : Bool). Keeps k.stanza q (entry (turns_of p.turned) w ∷ log) b t) (p.ended refl) (record {
      repository = p.repository.carries.keeps q log some keeps.repository;
      receipts = p.spool.keeps q log some known keeps;
    })

-- ---- one step of others

some_same : (k m : Account) → ◌≡◌ {A = Option Account} (Some k) (Some m) → k ≡ m
some_same k m e = cc

-- which one it was
pub turn_of : (ended : Bool) (old : Option Account) (k : Account) (a b s t : View) → HadTurn ended old (Some k) a b s t →
    (it : Turned) × GoesOnBy it k.stanza old (Some k) × (it.turn.ended ≡ ended)
turn_of ended old k a b s t h =
    let x = h.account refl in
    let by : GoesOnBy x.1 x.0 old (Some k) = x.2 in
    let e : record { stanza = x.0; turns = by.before ++ x.1 ∷ [] } ≡ k = (let i = by.is in cc) in
    (x.1, subst (λ (z : Text). GoesOnBy x.1 z old (Some k)) (ap (λ (o : Account). o.stanza) e) by, x.3)

pub turn_went : (ended : Bool) (old : Option Account) (k : Account) (a b s t : View) (h : HadTurn ended old (Some k) a b s t) (it : Turned)
    (by : GoesOnBy it k.stanza old (Some k)) → it.turn.ended ≡ ended → (r : TurnsDone ended old k a b s t) × (r.turned ≡ it ∷ [])
turn_went ended old k a b s t h it by is = (
  record {
    before = by.before;
    turned = it ∷ [];
    was = by.was;
    is = ap (λ (o : Account). o.turns) (some_same k (record { stanza = k.stanza; turns = by.before ++ it ∷ [] }) by.is);
    ended = λ w. and-true it.turn.ended ∙ is ∙ w;
    repository = one_goes k.stanza it.turn a b (h.repository k.stanza it by);
    spool = one_marks k.stanza it.turn a b s t (h.repository k.stanza it by) (h.receipts k.stanza it by) (h.spool_only k.stanza it by) h.spool_known;
    repo_only = h.repo_only k.stanza it by;
    spool_only = h.spool_only k.stanza it by;
  },
  refl,
)
