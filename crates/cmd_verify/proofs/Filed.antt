-- One file of a backup, judged.
use Rattle.std.proofs.Common.{◌≡◌, ℕ, ◌<◌, List, [], ◌∷◌, ◌++◌, Option, Some, None, refl, sym, ap, ◌∙◌, subst}
use Rattle.std.specs.Prelude.{IfSome, string_bytes}
use Rattle.base_devices.specs.Content.{Content, Value}
use Rattle.base_model.specs.declared.labels.Label.{Label}
use Rattle.base_model.specs.Text.{Text}
use Rattle.base_model.specs.Values.{FileEntry}
use Rattle.base_model.specs.Place.{place}
use Rattle.cmd_verify.specs.declared.findings.finding.Finding.{Finding}
use Rattle.cmd_verify.specs.declared.findings.finding.Mark.{Mark}
use Rattle.cmd_verify.specs.declared.findings.place_sum.Lies.{Lies}
use Rattle.cmd_verify.specs.Adding.{Adds}
use Rattle.cmd_verify.specs.Findings.{BytesDeviate, EntryDeviates}
use Rattle.cmd_verify.specs.Lies.{LiesSo, ShowsJustOne}
use Rattle.cmd_verify.proofs.Adding.{adds_one, adds_none}

module _ (stanza : Text) (own : Label) (e : FileEntry) (filled : 0 < e.size) (name : Text) (at : ℕ) (name_is : name ≡ (place stanza own e).0) (at_is : at ≡ (place stanza own e).1)
    (lies : Lies) (known : Option Mark) (judged : (v : Value) (k : ℕ) → LiesSo v k e.size lies → ShowsJustOne (BytesDeviate v k e.size e.sum) known) where
  here : (f : Content) → LiesSo (f name) at e.size lies → ShowsJustOne (BytesDeviate (f (place stanza own e).0) (place stanza own e).1 e.size e.sum) known
  here f l = judged (f (place stanza own e).0) (place stanza own e).1 (subst (λ (n : Text). LiesSo (f n) (place stanza own e).1 e.size lies) name_is (subst (λ (k : ℕ). LiesSo (f name) k e.size lies) at_is l))

  tell : (f : Content) (a : List Finding) (x : Finding) (m : Mark) → known ≡ Some m → string_bytes x.name ≡ name → x.kind ≡ m.kind → x.line ≡ m.line → LiesSo (f name) at e.size lies → Adds (EntryDeviates stanza f own e) a (a ++ x ∷ [])
  tell f a x m is named kind line l =
      let t = subst (ShowsJustOne (BytesDeviate (f (place stanza own e).0) (place stanza own e).1 e.size e.sum)) is (here f l) in
      let n = (place stanza own e).0 in
      adds_one (EntryDeviates stanza f own e) a x n t.0 (record { filled = filled; is = refl; deviates = t.1 }) (record { named = named ∙ name_is; kind = kind ∙ t.2; line = ap string_bytes line ∙ t.3 })
      (λ k w d. (d.is, t.4 w (subst (λ (q : Text). BytesDeviate (f q) (place stanza own e).1 e.size e.sum w) d.is d.deviates)))

  clean : (f : Content) (a : List Finding) → known ≡ None → LiesSo (f name) at e.size lies → Adds (EntryDeviates stanza f own e) a a
  clean f a is l =
      let t = subst (ShowsJustOne (BytesDeviate (f (place stanza own e).0) (place stanza own e).1 e.size e.sum)) is (here f l) in
      adds_none (EntryDeviates stanza f own e) a (λ k w d. t w (subst (λ (q : Text). BytesDeviate (f q) (place stanza own e).1 e.size e.sum w) d.is d.deviates))

  pub file_known : (o : Option Content) (a b : List Finding) (x : Finding) (m : Mark) → known ≡ Some m → string_bytes x.name ≡ name → x.kind ≡ m.kind → x.line ≡ m.line → b ≡ a ++ x ∷ []
      → IfSome o (λ f. LiesSo (f name) at e.size lies) → IfSome o (λ f. Adds (EntryDeviates stanza f own e) a b)
  file_known None a b x m is named kind line grown l = tt
  file_known (Some f) a b x m is named kind line grown l = subst (λ (c : List Finding). Adds (EntryDeviates stanza f own e) a c) (sym grown) (tell f a x m is named kind line l)

  pub file_clean : (o : Option Content) (a : List Finding) → known ≡ None → IfSome o (λ f. LiesSo (f name) at e.size lies) → IfSome o (λ f. Adds (EntryDeviates stanza f own e) a a)
  file_clean None a is l = tt
  file_clean (Some f) a is l = clean f a is l
