-- Why files weren't filled, of a part and of the whole.
use Rattle.std.proofs.Common.{ℕ, ◌≡◌, ⊎_elim, ◌≤◌, sym, ap, ◌∙◌, subst, arith, List, [], ◌∷◌, ◌++◌, length-append, Option, Some, None, append_assoc}
use Rattle.base_devices.specs.Cause.{Rises}
use Rattle.base_devices.specs.Links.{LinkState, Modelled}
use Rattle.base_model.specs.declared.labels.Label.{Label}
use Rattle.base_model.specs.Text.{Text, In}
use Rattle.base_model.specs.Values.{FileEntry}
use Rattle.worker_protocol.specs.Frames.{Item}
use Rattle.worker_pool.specs.Reads.{UnreadBy}
use Rattle.worker_pool.specs.Going.{IsSame}
use Rattle.worker_pool.specs.declared.dispatch.fault.Lost.{Lost}
use Rattle.restore_steps.specs.Sources.{source}
use Rattle.restore_make.specs.declared.fault.FillFault.{FillFault}
use Rattle.restore_make.specs.declared.fault.FillFault.TheVariants as faults
use Rattle.worker_pool.specs.Left.{IsLeft}
use Rattle.restore_make.specs.Faults.{FillFails}
use Rattle.worker_pool.proofs.Links.{reads_as, steady_as}
use Rattle.restore_make.proofs.Links.{read_before}

rises_later : (f g h : ℕ) → f ≤ g → Rises g h → Rises f h
rises_later f g h le rose = grind arith

-- the folder's count was lower before
pub fails_later : (stanza : Text) (own : Label) (es : List FileEntry) (links left : List LinkState) (before after : List Lost) (f g h : ℕ) (e : FillFault) → f ≤ g → FillFails e stanza own es links left before after g h
    → FillFails e stanza own es links left before after f h
fails_later stanza own es links left before after f g h (faults.FileDamaged path known found) le x = x
fails_later stanza own es links left before after f g h faults.WorkersLost le x = x
fails_later stanza own es links left before after f g h (faults.Unread path) le x = x
fails_later stanza own es links left before after f g h faults.DataFolder le x = rises_later f g h le x
fails_later stanza own es links left before after f g h faults.NoMemory le x = x

-- the entries are among more
pub fails_listed : (stanza : Text) (own : Label) (ds es : List FileEntry) (links left : List LinkState) (before after : List Lost) (f g : ℕ) (e : FillFault) → ((d : FileEntry) → In d ds → In d es) → FillFails e stanza own ds links left before after f g
    → FillFails e stanza own es links left before after f g
fails_listed stanza own ds es links left before after f g (faults.FileDamaged path known found) all x = record {
  entry = x.entry;
  listed = all x.entry x.listed;
  path_is = x.path_is;
  known_fact_is = x.known_fact_is;
  bytes = x.bytes;
  read = x.read;
  found_is = x.found_is;
  wrong = x.wrong;
}
fails_listed stanza own ds es links left before after f g faults.WorkersLost all x = x
fails_listed stanza own ds es links left before after f g (faults.Unread path) all x = record {
  entry = x.entry;
  listed = all x.entry x.listed;
  path_is = x.path_is;
  now = x.now;
  is = x.is;
  given = x.given;
  link = x.link;
  from = x.from;
  from_is = x.from_is;
  unread = x.unread;
}
fails_listed stanza own ds es links left before after f g faults.DataFolder all x = x
fails_listed stanza own ds es links left before after f g faults.NoMemory all x = x

-- the entry is one of more
pub fails_more : (stanza : Text) (own : Label) (d : FileEntry) (es : List FileEntry) (links left : List LinkState) (before after : List Lost) (f g : ℕ) (e : FillFault) → In d es → FillFails e stanza own (d ∷ []) links left before after f g
    → FillFails e stanza own es links left before after f g
fails_more stanza own d es links left before after f g e i x = fails_listed stanza own (d ∷ []) es links left before after f g e (λ c j. ⊎_elim (λ (same : c ≡ d). subst (λ (y : FileEntry). In y es) (sym same) i) (λ (n : ⊥). absurd n) j) x

unread_known : (a b : Option Modelled) (item : Item) → IsSame a b → UnreadBy b item → UnreadBy a item
unread_known None b item same r = tt
unread_known (Some a) None item same r = absurd same
unread_known (Some a) (Some b) item same r = λ tree repo reads. r tree repo (reads_as tree repo b a same.0 reads)

-- the links were those that others had left
pub fails_before : (stanza : Text) (own : Label) (es : List FileEntry) (first links left : List LinkState) (start before after : List Lost) (f g : ℕ) (e : FillFault) → IsLeft first links start before → FillFails e stanza own es links left before after f g
    → FillFails e stanza own es first left start after f g
fails_before stanza own es first links left start before after f g (faults.FileDamaged path known found) was x = record {
  entry = x.entry;
  listed = x.listed;
  path_is = x.path_is;
  known_fact_is = x.known_fact_is;
  bytes = x.bytes;
  read = read_before first links start before (source stanza own x.entry) x.bytes was x.read;
  found_is = x.found_is;
  wrong = x.wrong;
}
fails_before stanza own es first links left start before after f g faults.WorkersLost was x = record {
  entries = was.entries ++ x.entries;
  is = x.is ∙ ap (λ (l : List Lost). l ++ x.entries) was.is ∙ append_assoc start was.entries x.entries;
  count = omega (arith, length-append was.entries x.entries, was.count, x.count);
  unsteady = λ i s is w. let same = was.steady i s is w in x.unsteady same.0 same.1 same.2 (steady_as s.known same.1.known same.3 w);
}
fails_before stanza own es first links left start before after f g (faults.Unread path) was x =
    let from = was.each x.link x.from x.from_is in
    record {
      entry = x.entry;
      listed = x.listed;
      path_is = x.path_is;
      now = x.now;
      is = x.is;
      given = x.given;
      link = from.link;
      from = from.from;
      from_is = from.is;
      unread = unread_known from.from.known x.from.known (source stanza own x.entry) from.same x.unread;
    }
fails_before stanza own es first links left start before after f g faults.DataFolder was x = x
fails_before stanza own es first links left start before after f g faults.NoMemory was x = x
