-- A wait for a file: steps of others that left no mark of it, and the one that did.
use Rattle.std.proofs.Common.{◌≡◌, ⊎_elim, inl, inr, ℕ, List, [], ◌∷◌, ◌++◌, String, Option, Some, None, refl, sym, ap, ◌∙◌, subst, arith, Bool, true, false}
use Rattle.std.specs.declared.alloc.Global.{Global}
use Rattle.std.specs.Prelude.{◌<◌, IfSome, IsSome, IsSomeAnd, length, string_bytes}
use Rattle.base_text.specs.Sum.{IsSum}
use Rattle.base_devices.specs.Content.{Content, Name, Value}
use Rattle.base_devices.specs.Moments.{View, is_unsynced}
use Rattle.base_devices.proofs.Nows.{known_as}
use Rattle.base_disk.proofs.Images.{Law}
use Rattle.base_model.specs.declared.wal.ArchiveName.{ArchiveName}
use Rattle.base_model.specs.Names.{receipt_name}
use Rattle.base_model.specs.Text.{Text, In}
use Rattle.base_model.specs.Repository.{Repository}
use Rattle.base_model.specs.Represents.{IsWalName}
use Rattle.base_model.specs.Log.{Done as Entry, Keeps, Reaches, HasReceipt, IsDrained}
use Rattle.base_model.proofs.Pushed.{in_either, at_known}
use Rattle.archive_lookup.specs.Stored.{ChangesArchive}
use Rattle.archive_lookup.specs.Turns.{Turned, Account, GoesOnBy, HadReceipt, IsStoredBy, refusal_name}
use Rattle.archive_spool.specs.declared.spool_query.Asked.TheVariants.{NotYet, Reported}
use Rattle.archive_spool.specs.Asking.{Answers, IsLong, IsMarkName}
use Rattle.archive_spool.specs.Marks.{GivesMarks, receipt_text, refusal_text}
use Rattle.archive_wait.specs.TurnsDone.{TurnsDone}
use Rattle.archive_wait.proofs.Marks.{none_more}
use Rattle.cmd_archive_push_wait.specs.Causes.{IsLongMark, MarkedSo}
use Rattle.cmd_archive_push_wait.specs.Leaving.{IsAcknowledged, IsBare, IsClear, IsSilent, HadTurn, Shows, entry_of}
use Rattle.cmd_archive_push_wait.proofs.Chains.{look_went, went_look, went_any, went_keeps, went_on, turn_of, turn_went}

not_both : (o : Value) (x : Text) → o ≡ None → o ≡ Some x → ⊥
not_both o x none some = let e : ◌≡◌ {A = Value} None (Some x) = sym none ∙ some in cc

in_last : {X : Type 0} (x : X) (xs : List X) → In x (xs ++ x ∷ [])
in_last x [] = inl refl
in_last x (y ∷ xs) = inr (in_last x xs)

-- the spool was looked at
pub record HasLooked (stanza : Text) (t u : View) : Type 0 where
  pub law : Law t
  pub new_law : Law u
  pub known : IsSome t.now → IsSome u.now
  pub marks : GivesMarks stanza [] t u
  pub only : ChangesArchive stanza t u

-- where the spool has no mark of the file, its marks aren't there, and no crash brings its receipt back
pub record HasCleared (stanza : Text) (name : ArchiveName) (t u : View) : Type 0 where
  pub clear : IfSome u.now (IsClear stanza name)
  pub bare : IsSome t.now → is_unsynced t (receipt_name stanza name) ≡ false → IsBare stanza name u

-- Steps of others were waited for that left no mark of the file, and the last look found nothing.
pub record Waiting (name : ArchiveName) (sum : Text) (old : Option Account) (new : Account) (repo new_repo spool new_spool : View) : Type 0 where
  pub went : TurnsDone true old new repo new_repo spool new_spool
  pub each : IsSome spool.now → (t : Turned) → In t went.turned → Shows new.stanza name sum t.marks NotYet
  pub clear : IfSome new_spool.now (IsClear new.stanza name)
  pub bare : (q : Repository) (log : List Entry) → IsSome repo.now → IsSome spool.now → Keeps new.stanza q log repo spool → IsBare new.stanza name new_spool

pub silent_of : (name : ArchiveName) (sum : Text) (old : Option Account) (new : Account) (repo new_repo spool new_spool : View) →
    Waiting name sum old new repo new_repo spool new_spool → IsSilent name sum old new repo new_repo spool new_spool
silent_of name sum old new repo new_repo spool new_spool w = record { went = w.went; each = w.each }

-- ---- the first look

module _ (name : ArchiveName) (sum : Text) (fits : IsWalName name) (k : Account) (repo spool new_spool : View) (look : HasLooked k.stanza spool new_spool) where
  abbrev FirstWent : Bool → Type 0
  FirstWent whole = (r : TurnsDone whole (Some k) k repo repo spool new_spool) × (r.turned ≡ [])

  pub first_went : (whole : Bool) → FirstWent whole
  first_went whole = look_went k repo spool new_spool look.law look.new_law look.marks look.known look.only whole

  pub first_waiting : HasCleared k.stanza name spool new_spool → Waiting name sum (Some k) k repo repo spool new_spool
  first_waiting cleared =
      let x = first_went true in
      record {
        went = x.0;
        each = λ known t i. absurd (subst (λ (l : List Turned). In t l) x.1 i);
        clear = cleared.clear;
        bare = λ q log some known keeps. cleared.bare known (keeps.receipts.fixed name fits);
      }

  abbrev IsNoted : Repository → List Entry → Type 0
  IsNoted q log = (r : Repository) × Reaches q log r × IsDrained r name sum

  pub first_stored : IfSome spool.now (λ f. HasReceipt k.stanza f name sum) → IsAcknowledged name sum (Some k) k repo repo spool
  first_stored has =
      let x = first_went true in
      record {
        before = x.0.before;
        turned = x.0.turned;
        was = x.0.was;
        is = x.0.is;
        drained = λ q log some known keeps.
            let both = went_keeps (Some k) k repo repo spool new_spool x.0 q log some known keeps in
            let f = known_as spool.now known in
            let y = keeps.receipts.receipts f.0 (inl f.1) name sum fits (at_known (λ g. HasReceipt k.stanza g name sum) spool.now f.0 f.1 has) in
            noted q log x.0.turned x.1 y;
        stored = λ q log some known keeps. inl has;
      }
    where
      noted : (q : Repository) (log : List Entry) (l : List Turned) → l ≡ [] → IsNoted q log → IsNoted q (entry_of l ∷ log)
      noted q log l none y = subst (λ (z : List Turned). IsNoted q (entry_of z ∷ log)) (sym none) (y.0, none_more true q log y.0 y.1, y.2)

-- ---- a step of others, and the look after it

module _ (stanza : Text) (name : ArchiveName) (sum : Text) (old mid : Option Account) (k : Account) (of : k.stanza ≡ stanza)
    (repo repo2 repo3 spool spool2 spool3 : View)
    (waiting : IfSome mid (λ m. m.stanza ≡ stanza → Waiting name sum old m repo repo2 spool spool2)) where
  -- the account before this step of others
  module _ (it : Turned) (by : GoesOnBy it k.stanza mid (Some k)) where
    abbrev earlier : Account
    earlier = record { stanza = k.stanza; turns = by.before }

    abbrev waited : Waiting name sum old earlier repo repo2 spool spool2
    waited = subst (λ (o : Option Account). IfSome o (λ m. m.stanza ≡ stanza → Waiting name sum old m repo repo2 spool spool2)) by.was waiting of

    module _ (ended : Bool) (turn : HadTurn ended mid (Some k) repo2 repo3 spool2 spool3) (is : it.turn.ended ≡ ended) where
      abbrev turn_on : (r : TurnsDone ended (Some earlier) k repo2 repo3 spool2 spool3) × (r.turned ≡ it ∷ [])
      turn_on = subst (λ (o : Option Account). (r : TurnsDone ended o k repo2 repo3 spool2 spool3) × (r.turned ≡ it ∷ [])) by.was
          (turn_went ended mid k repo2 repo3 spool2 spool3 turn it by is)

      abbrev joined : (r : TurnsDone ended old k repo repo3 spool spool3) × (r.turned ≡ waited.went.turned ++ it ∷ [])
      joined =
          let x = went_on ended old k repo repo2 repo3 spool spool2 spool3 earlier waited.went turn_on.0 in
          (x.0, x.1 ∙ ap (λ (l : List Turned). waited.went.turned ++ l) turn_on.1)

  pub turn_failed : HadTurn false mid (Some k) repo2 repo3 spool2 spool3 → TurnsDone false old k repo repo3 spool spool3
  turn_failed turn =
      let x = turn_of false mid k repo2 repo3 spool2 spool3 turn in
      (joined x.0 x.1 false turn x.2).0

  module _ (fits : IsWalName name) (digest : IsSum sum) (turn : HadTurn true mid (Some k) repo2 repo3 spool2 spool3) (spool4 : View)
      (look : HasLooked k.stanza spool3 spool4) where
    abbrev this : (it : Turned) × GoesOnBy it k.stanza mid (Some k) × (it.turn.ended ≡ true)
    this = turn_of true mid k repo2 repo3 spool2 spool3 turn

    abbrev it : Turned
    it = this.0

    abbrev before : Waiting name sum old (earlier it this.1) repo repo2 spool spool2
    before = waited it this.1

    abbrev went3 : (r : TurnsDone true old k repo repo3 spool spool3) × (r.turned ≡ before.went.turned ++ it ∷ [])
    went3 = joined it this.1 true turn this.2

    abbrev went4 : (r : TurnsDone true old k repo repo3 spool spool4) × (r.turned ≡ before.went.turned ++ it ∷ [])
    went4 =
        let x = went_look k repo3 spool3 spool4 look.law look.new_law look.marks look.known look.only old repo spool went3.0 in
        (x.0, x.1 ∙ went3.1)

    pub looked_went : (whole : Bool) → TurnsDone whole old k repo repo3 spool spool4
    looked_went whole = went_any whole old k repo repo3 spool spool4 went4.0

    among : In it went4.0.turned
    among = subst (λ (l : List Turned). In it l) (sym went4.1) (in_last it before.went.turned)

    spool3_known : IsSome spool.now → (f : Content) × (spool3.now ≡ Some f)
    spool3_known known = known_as spool3.now (went3.0.spool.known known)

    spool2_known : IsSome spool.now → (f : Content) × (spool2.now ≡ Some f)
    spool2_known known = known_as spool2.now (before.went.spool.known known)

    -- a mark of the file that comes after the step of others is one of that step's
    marked : IsSome spool.now → (f : Content) → spool3.now ≡ Some f → (n : Name) (bytes : Text) → IsMarkName k.stanza name n → f n ≡ Some bytes → In (n, bytes) it.marks
    marked known f is n bytes mark holds =
        let e = spool2_known known in
        let clear = at_known (IsClear k.stanza name) spool2.now e.0 e.1 before.clear in
        let none : e.0 n ≡ None = ⊎_elim (λ (s : n ≡ receipt_name k.stanza name). ap e.0 s ∙ clear.0) (λ (s : n ≡ refusal_name k.stanza name). ap e.0 s ∙ clear.1) mark in
        ⊎_elim (λ (was : e.0 n ≡ Some bytes). absurd (not_both (e.0 n) bytes none was)) (λ i. i)
        ((turn.marks refl k.stanza it this.1).others e.0 f e.1 is n bytes (name, mark) holds)

    represents : (f : Content) → spool3.now ≡ Some f → (n : Name) (bytes : Text) → In (n, bytes) it.marks → f n ≡ Some bytes
    represents f is n bytes i = (turn.marks refl k.stanza it this.1).stand f is (n, bytes) i

    no_receipt : (f : Content) → spool3.now ≡ Some f → ¬ HasReceipt k.stanza f name sum → ¬ In (receipt_name k.stanza name, receipt_text sum) it.marks
    no_receipt f is none i = none (digest, represents f is (receipt_name k.stanza name) (receipt_text sum) i)

    -- ---- what the look finds

    stored_now : (q : Repository) (log : List Entry) → IsSome repo.now → IsSome spool.now → Keeps k.stanza q log repo spool →
        IfSome spool3.now (λ f. HasReceipt k.stanza f name sum) → IsStoredBy k.stanza it.turn name sum repo3
    stored_now q log some known keeps has =
        let mid_keeps = went_keeps old (earlier it this.1) repo repo2 spool spool2 before.went q log some known keeps in
        let f = spool3_known known in
        let receipt = at_known (λ g. HasReceipt k.stanza g name sum) spool3.now f.0 f.1 has in
        ⊎_elim (λ (h : HadReceipt k.stanza spool2 name sum).
        absurd (not_both (h.0 (receipt_name k.stanza name)) (receipt_text sum) (before.bare q log some known keeps h.0 h.1) h.2.1))
        (λ (s : IsStoredBy k.stanza it.turn name sum repo3). s)
        ((turn.receipts k.stanza it this.1).each q (entry_of before.went.turned ∷ log) (before.went.repository.does.known some) (before.went.spool.known known) mid_keeps
        spool3.moment f.0 (turn.spool_only k.stanza it this.1).time.later (omega arith) (inl f.1) name sum fits receipt)

    pub turn_stored : IfSome spool3.now (λ f. HasReceipt k.stanza f name sum) → IsAcknowledged name sum old k repo repo3 spool
    turn_stored has = record {
      before = went4.0.before;
      turned = went4.0.turned;
      was = went4.0.was;
      is = went4.0.is;
      drained = λ q log some known keeps.
          let both = went_keeps old k repo repo3 spool spool3 went3.0 q log some known keeps in
          let f = spool3_known known in
          let y = both.receipts.receipts f.0 (inl f.1) name sum fits (at_known (λ g. HasReceipt k.stanza g name sum) spool3.now f.0 f.1 has) in
          subst (λ (l : List Turned). (r : Repository) × Reaches q (entry_of l ∷ log) r × IsDrained r name sum) (went3.1 ∙ sym went4.1) y;
      stored = λ q log some known keeps. inr (it, among, stored_now q log some known keeps has);
    }

    pub turn_silent : IfSome spool3.now (λ f. Answers k.stanza f name sum NotYet) → HasCleared k.stanza name spool3 spool4 →
        Waiting name sum old k repo repo3 spool spool4
    turn_silent says cleared = record {
      went = went4.0;
      each = λ known t i. ⊎_elim (λ (h : In t before.went.turned). before.each known t h)
          (λ (e : t ≡ it). subst (λ (x : Turned). Shows k.stanza name sum x.marks NotYet) (sym e) (none known))
          (in_either t it before.went.turned (subst (λ (l : List Turned). In t l) went4.1 i));
      clear = cleared.clear;
      bare = λ q log some known keeps. cleared.bare (went3.0.spool.known known)
          ((went_keeps old k repo repo3 spool spool3 went3.0 q log some known keeps).receipts.fixed name fits);
    }
      where
        none : IsSome spool.now → Shows k.stanza name sum it.marks NotYet
        none known =
            let f = spool3_known known in
            let nothing = at_known (λ g. Answers k.stanza g name sum NotYet) spool3.now f.0 f.1 says in (
              no_receipt f.0 f.1 nothing.0,
              λ code line small text i. nothing.1 code line (small, text, represents f.0 f.1 (refusal_name k.stanza name) (refusal_text code line) i),
            )

    pub turn_refused : (code : ℕ) (text : String Global) → IfSome spool3.now (λ f. Answers k.stanza f name sum (Reported code text)) →
        MarkedSo name (λ t. Shows k.stanza name sum t.marks (Reported code text)) old k repo repo3 spool spool4
    turn_refused code text says = record { went = went4.0; one = λ known. (it, among, refused known) }
      where
        refused : IsSome spool.now → Shows k.stanza name sum it.marks (Reported code text)
        refused known =
            let f = spool3_known known in
            let x = at_known (λ g. Answers k.stanza g name sum (Reported code text)) spool3.now f.0 f.1 says in (
              no_receipt f.0 f.1 x.0,
              marked known f.0 f.1 (refusal_name k.stanza name) (refusal_text code (string_bytes text)) (inr refl) x.1.2,
            )

    pub turn_long : (n : Name) (limit : ℕ) → IsLong (IsMarkName k.stanza name) spool3.now n limit →
        MarkedSo name (IsLongMark k.stanza name n limit) old k repo repo3 spool spool4
    turn_long n limit long = record { went = went4.0; one = λ known. (it, among, (long.0, long.1, at_mark known)) }
      where
        at_mark : IsSome spool.now → (bytes : Text) × In (n, bytes) it.marks × (limit < length bytes)
        at_mark known =
            let f = spool3_known known in
            by (f.0 n) refl (at_known (λ g. IsSomeAnd (g n) (λ b. limit < length b)) spool3.now f.0 f.1 long.2)
          where
            by : (v : Value) → (spool3_known known).0 n ≡ v → IsSomeAnd v (λ b. limit < length b) → (bytes : Text) × In (n, bytes) it.marks × (limit < length bytes)
            by None e h = absurd h
            by (Some bytes) e h = (bytes, marked known (spool3_known known).0 (spool3_known known).1 n bytes long.0 e, h)
