-- The stanza that arguments resolve to is in form.
use Rattle.std.proofs.Common.{◌≡◌, ◌≢◌, ℕ, Bool, true, false, List, [], ◌∷◌, length, drop, codes, Option, Some, None, Result, Ok, Err, refl, sym, ap, subst, ◌∙◌}
use Rattle.std.specs.Prelude.{string_bytes, ◌&&◌, ◌||◌, is_some, is_none, if◌then◌else◌, option_and_then}
use Rattle.std.specs.List.{list_all, list_any, find}
use Rattle.std.specs.Option.{option_map_or, option_or}
use Rattle.base_devices.specs.Content.{Content}
use Rattle.base_model.specs.Text.{Text}
use Rattle.options_table.specs.declared.table.TheConstants.{TABLE, VERBS}
use Rattle.options_table.specs.declared.table.Opt.TheVariants.{Stanza}
use Rattle.options_table.specs.declared.table.Verb.{Verb}
use Rattle.options_table.specs.declared.table.Verb.TheVariants.{StanzaCreate, StanzaUpgrade, ArchivePush, ArchivePushAsync, ArchiveGet, ArchiveGetAsync, Backup, Expire, Restore, Verify, Info, Rehearse}
use Rattle.options_read.specs.Faults.{Fault, option_missing, option_value, ◌>>=◌}
use Rattle.options_table.specs.Table.{row, is_for, stanza as stanza_kind}
use Rattle.base_model.specs.StanzaName.{is_stanza, is_stanza_byte}
use Rattle.options_table.specs.Values.{value_of, text_where}
use Rattle.options_read.specs.Words.{read_arguments}
use Rattle.options_read.specs.Settings.{Source, Resolved, resolve, resolved_arguments, settled, source_of, sections_of, configured, accepted, command_of, each_is_for, stanza_of, value_given, value_configured, none_wrong, refused, is_wrong, in_force, stated_all, value}
use Rattle.archive_lookup.specs.Paths.{Lacks}
use Rattle.archive_store.proofs.PathLies.{lacks_not}
use Rattle.base_crash_lists.specs.Beside.{IsStanza}
use Rattle.options_read.specs.declared.resolve.Command.{Command}
use Rattle.options_read.specs.Commands.{IsCommand}
use Rattle.program_run.specs.Asked.{ArgumentsResolve, MayAsk}
use Rattle.program_run.proofs.AskedOnce.{ok_same}

-- ---- what succeeds in steps succeeds in each

bind_ok : {A B : Type 0} (r : Result A Fault) (f : A → Result B Fault) (b : B) → (r >>= f) ≡ Ok b → (a : A) × (r ≡ Ok a) × (f a ≡ Ok b)
bind_ok (Ok a) f b e = (a, refl, e)
bind_ok {A} {B} (Err x) f b e = let u : ◌≡◌ {A = Result B Fault} (Err x) (Ok b) = e in cc

-- the first of a table doesn't fail
head_right : {A : Type 0} (fails : A → Bool) (fault : A → Fault) (x : A) (xs : List A) → refused fails fault (x ∷ xs) ≡ Ok tt → fails x ≡ false
head_right {A} fails fault x xs e = go (fails x) refl
  where
    go : (b : Bool) → fails x ≡ b → fails x ≡ false
    go false is = is
    go true is = let found : find fails (x ∷ xs) ≡ Some x = ap (λ (b : Bool). if b then Some x else find fails xs) is in
        let u : ◌≡◌ {A = Result (Unit {0}) Fault} (Err (fault x)) (Ok tt) = sym (ap (λ (o : Option A). option_map_or (λ (y : A). Err (fault y)) o (Ok tt)) found) ∙ e in cc

-- ---- the stanza is the value of its option

given_is : (given : List (Text × Text)) (stanza : Text) → stanza_of given ≡ Ok stanza → value_given given (codes "stanza") ≡ Some stanza
given_is given stanza e = go (value_given given (codes "stanza")) refl
  where
    go : (o : Option Text) → value_given given (codes "stanza") ≡ o → value_given given (codes "stanza") ≡ Some stanza
    go (Some t) is = let u : ◌≡◌ {A = Result Text Fault} (Ok t) (Ok stanza) = sym (ap (λ (o : Option Text). option_map_or (λ (s : Text). Ok s) o (Err (option_missing (codes "stanza")))) is) ∙ e in is ∙ ap Some (ok_same t stanza u)
    go None is = let u : ◌≡◌ {A = Result Text Fault} (Err (option_missing (codes "stanza"))) (Ok stanza) = sym (ap (λ (o : Option Text). option_map_or (λ (s : Text). Ok s) o (Err (option_missing (codes "stanza")))) is) ∙ e in cc

every_has : (verb : Verb) → is_for verb Stanza ≡ true
unfolding row
every_has StanzaCreate = refl
every_has StanzaUpgrade = refl
every_has ArchivePush = refl
every_has ArchivePushAsync = refl
every_has ArchiveGet = refl
every_has ArchiveGetAsync = refl
every_has Backup = refl
every_has Expire = refl
every_has Restore = refl
every_has Verify = refl
every_has Info = refl
every_has Rehearse = refl

in_force_is : (s : Source) (stanza : Text) → value_given s.given (codes "stanza") ≡ Some stanza → in_force s Stanza ≡ Some stanza
unfolding in_force row
in_force_is s stanza is =
    let more = value_configured (row Stanza).place s (codes "stanza") in
    ap (λ (b : Bool). option_or (if b then option_or (value_given s.given (codes "stanza")) more else None) None) (every_has s.verb)
    ∙ ap (λ (o : Option Text). option_or (option_or o more) None) is

right_is : (s : Source) (stanza : Text) → in_force s Stanza ≡ Some stanza → is_wrong s Stanza ≡ false → is_stanza stanza ≡ true
unfolding value row
right_is s stanza is right = go (is_stanza stanza) refl
  where
    go : (b : Bool) → is_stanza stanza ≡ b → is_stanza stanza ≡ true
    go true e = e
    go false e =
        let others = list_any (λ (t : Text). is_none (value_of stanza_kind t)) (stated_all s Stanza) in
        let wrong : is_wrong s Stanza ≡ true =
        ap (λ (o : Option Text). (is_some o && is_none (option_and_then (value_of stanza_kind) o)) || others) is ∙ ap (λ (b : Bool). is_none (text_where b stanza) || others) e in
        let u : ◌≡◌ {A = Bool} false true = sym right ∙ wrong in cc

-- ---- what resolves

module _ (arguments : List Text) (bytes : Text) (s : Resolved) where
  in_steps : resolved_arguments arguments bytes ≡ Ok s → (source : Source) × (count : ℕ) × (value_given source.given (codes "stanza") ≡ Some s.stanza) × (accepted source TABLE count ≡ Ok tt)
  unfolding resolved_arguments resolve
  in_steps e =
      let read = bind_ok (read_arguments TABLE arguments) _ s e in
      let verb = bind_ok (command_of VERBS read.0.command) _ s read.2 in
      let for_it = bind_ok (each_is_for TABLE verb.0 read.0.given) _ s verb.2 in
      let stanza = bind_ok (stanza_of read.0.given) _ s for_it.2 in
      let settings = bind_ok (configured TABLE bytes) _ s stanza.2 in
      let source = source_of TABLE verb.0 read.0.given (sections_of stanza.0 verb.0) settings.0 in
      let right = bind_ok (accepted source TABLE (length read.0.parameters)) _ s settings.2 in
      let same : stanza.0 ≡ s.stanza = ap (λ (x : Resolved). x.stanza) (ok_same (settled TABLE stanza.0 read.0 source settings.0) s right.2) in
      (source, length read.0.parameters, given_is read.0.given stanza.0 stanza.1 ∙ ap Some same, right.1)

accepted_right : (source : Source) (count : ℕ) → accepted source TABLE count ≡ Ok tt → is_wrong source Stanza ≡ false
unfolding accepted
accepted_right source count e = head_right (is_wrong source) (λ o. option_value (row o).name) Stanza (drop 1 TABLE) (bind_ok (none_wrong source TABLE) _ tt e).1

settled_stanza : (arguments : List Text) (bytes : Text) (s : Resolved) → resolved_arguments arguments bytes ≡ Ok s → is_stanza s.stanza ≡ true
settled_stanza arguments bytes s e = let x = in_steps arguments bytes s e in right_is x.0 s.stanza (in_force_is x.0 s.stanza x.2) (accepted_right x.0 x.1 x.3)

-- ---- no slash

and_left : (a b : Bool) → (a && b) ≡ true → a ≡ true
and_left true b h = refl
and_left false b h = h

and_right : (a b : Bool) → (a && b) ≡ true → b ≡ true
and_right true b h = h
and_right false b h = let u : ◌≡◌ {A = Bool} false true = h in cc

no_slash : (c : ℕ) → is_stanza_byte c ≡ true → c ≢ 47
no_slash c is e = let u : ◌≡◌ {A = Bool} false true = ap is_stanza_byte (sym e) ∙ is in cc

bytes_lack : (t : Text) → list_all is_stanza_byte t ≡ true → Lacks 47 t
bytes_lack [] all = tt
bytes_lack (c ∷ t) all = (no_slash c (and_left (is_stanza_byte c) (list_all is_stanza_byte t) all), bytes_lack t (and_right (is_stanza_byte c) (list_all is_stanza_byte t) all))

form_lacks : (t : Text) → is_stanza t ≡ true → IsStanza t
form_lacks t is = lacks_not 47 t (bytes_lack t (and_right _ _ (and_left _ _ is)))

-- that of the command that was resolved is
pub command_in_form : (arguments : List Text) (files : Option Content) (c : Command) → ((s : Resolved) × ArgumentsResolve arguments files (Ok s) × IsCommand c s) → is_stanza (string_bytes c.stanza) ≡ true
command_in_form arguments files c x = subst (λ (t : Text). is_stanza t ≡ true) (sym x.2.stanza) (settled_stanza arguments x.1.bytes x.0 x.1.settled)

-- the stanza of what is asked for is in form
pub asked_in_form : (arguments : List Text) (files : Option Content) (s : Resolved) → MayAsk arguments files s → IsStanza s.stanza
asked_in_form arguments files s asks = form_lacks s.stanza (settled_stanza arguments asks.bytes s asks.settled)
