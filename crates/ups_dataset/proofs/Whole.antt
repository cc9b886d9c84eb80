-- From the readers to the public call.
use Rattle.std.proofs.Common.{◌≡◌, ℕ, List, [], refl, sym, ap, subst, ◌∙◌}
use Rattle.ups_pdu.specs.declared.syntax.TransferSyntax.{TransferSyntax}
use Rattle.ups_dataset.specs.declared.head.Reach.TheVariants.{Filled}
use Rattle.ups_dataset.specs.declared.fault.SetFault.{SetFault}
use Rattle.ups_dataset.specs.declared.fault.SetFault.TheVariants.{Short, TagOrder, BadVr, OddLength, Depth, BadItem, Memory}
use Rattle.ups_dataset.specs.Data.{Elements, no_elements, element, El, elements_of}
use Rattle.ups_dataset.specs.Code.{list_of, list_of-elements_of}
use Rattle.ups_dataset.specs.Spelling.{SpellsSet, SpellsElements, kept}
use Rattle.ups_dataset.specs.Failing.{ElementsFail}
use Rattle.ups_dataset.specs.Building.{OrMemory, BuildsElements}
use Rattle.ups_dataset.specs.Reading.{SetFails}
use Rattle.ups_dataset.proofs.Goods.{elements_left}
use Rattle.ups_dataset.proofs.Ways.{one_elements, not_elements, never_elements}

pub or_memory : (F G : SetFault → Type 0) (e : SetFault) → ((f : SetFault) → F f → G f) → OrMemory F e → OrMemory G e
or_memory F G Memory up h = tt
or_memory F G Short up h = up Short h
or_memory F G TagOrder up h = up TagOrder h
or_memory F G BadVr up h = up BadVr h
or_memory F G OddLength up h = up OddLength h
or_memory F G Depth up h = up Depth h
or_memory F G BadItem up h = up BadItem h

pub surely : (G : SetFault → Type 0) (e : SetFault) → G e → OrMemory G e
surely G Memory h = tt
surely G Short h = h
surely G TagOrder h = h
surely G BadVr h = h
surely G OddLength h = h
surely G Depth h = h
surely G BadItem h = h

pub elements_of-list_of : (es : Elements) → elements_of (list_of es) ≡ es
elements_of-list_of no_elements = refl
elements_of-list_of (element tag vr d more) = ap (λ l. element tag vr d l) (elements_of-list_of more)

-- all the elements of the whole bytes
pub spelled_whole : (syntax : TransferSyntax) (text : List ℕ) (es : Elements) (rest : List ℕ) → SpellsElements syntax 0 Filled 0 text es rest → SpellsElements syntax 0 Filled 0 text es []
spelled_whole syntax text es rest s = subst (λ (l : List ℕ). SpellsElements syntax 0 Filled 0 text es l) (elements_left syntax 0 Filled 0 text es rest s) s

pub some_set : (syntax : TransferSyntax) (text : List ℕ) (es : Elements) (rest : List ℕ) → SpellsElements syntax 0 Filled 0 text es rest → (set : List El) × SpellsSet syntax text set
some_set syntax text es rest s = (list_of (kept es), (es, spelled_whole syntax text es rest s, sym (elements_of-list_of (kept es))))

pub set_fails : (syntax : TransferSyntax) (text : List ℕ) (e : SetFault) → ElementsFail syntax 0 Filled 0 text e → SetFails syntax text e
set_fails syntax text Memory h = absurd (never_elements syntax 0 Filled 0 text Memory h refl)
set_fails syntax text Short h = h
set_fails syntax text TagOrder h = h
set_fails syntax text BadVr h = h
set_fails syntax text OddLength h = h
set_fails syntax text Depth h = h
set_fails syntax text BadItem h = h

pub set_fails_or : (syntax : TransferSyntax) (text : List ℕ) (e : SetFault) (es : Elements) (rest : List ℕ) → SpellsElements syntax 0 Filled 0 text es rest → OrMemory (ElementsFail syntax 0 Filled 0 text) e → SetFails syntax text e
set_fails_or syntax text Memory es rest s h = some_set syntax text es rest s
set_fails_or syntax text Short es rest s h = h
set_fails_or syntax text TagOrder es rest s h = h
set_fails_or syntax text BadVr es rest s h = h
set_fails_or syntax text OddLength es rest s h = h
set_fails_or syntax text Depth es rest s h = h
set_fails_or syntax text BadItem es rest s h = h

pub only_memory : (syntax : TransferSyntax) (text : List ℕ) (e : SetFault) (es : Elements) (rest : List ℕ) → SpellsElements syntax 0 Filled 0 text es rest → OrMemory (ElementsFail syntax 0 Filled 0 text) e → e ≡ Memory
only_memory syntax text Memory es rest s h = refl
only_memory syntax text Short es rest s h = absurd (not_elements syntax 0 Filled 0 text Short es rest h s)
only_memory syntax text TagOrder es rest s h = absurd (not_elements syntax 0 Filled 0 text TagOrder es rest h s)
only_memory syntax text BadVr es rest s h = absurd (not_elements syntax 0 Filled 0 text BadVr es rest h s)
only_memory syntax text OddLength es rest s h = absurd (not_elements syntax 0 Filled 0 text OddLength es rest h s)
only_memory syntax text Depth es rest s h = absurd (not_elements syntax 0 Filled 0 text Depth es rest h s)
only_memory syntax text BadItem es rest s h = absurd (not_elements syntax 0 Filled 0 text BadItem es rest h s)

pub built_set : (syntax : TransferSyntax) (text : List ℕ) (set : List El) (rest : List ℕ) → BuildsElements syntax 0 Filled 0 text set rest → SpellsSet syntax text set
built_set syntax text set rest b = (b.all, spelled_whole syntax text b.all rest b.spelled, b.is)

-- the bytes spell one set
pub one_set : (syntax : TransferSyntax) (text : List ℕ) (x y : List El) → SpellsSet syntax text x → SpellsSet syntax text y → x ≡ y
one_set syntax text x y (es, s, p) (fs, t, q) =
    let e = one_elements syntax 0 Filled 0 text es fs [] [] s t in
    sym (list_of-elements_of x) ∙ ap list_of (sym p ∙ ap kept e.0 ∙ q) ∙ list_of-elements_of y

-- where a set is spelled there is no fault but lack of memory
pub spelled_fault : (syntax : TransferSyntax) (text : List ℕ) (set : List El) (e : SetFault) → SpellsSet syntax text set → SetFails syntax text e → e ≡ Memory
spelled_fault syntax text set Memory (es, s, _) h = refl
spelled_fault syntax text set Short (es, s, _) h = absurd (not_elements syntax 0 Filled 0 text Short es [] h s)
spelled_fault syntax text set TagOrder (es, s, _) h = absurd (not_elements syntax 0 Filled 0 text TagOrder es [] h s)
spelled_fault syntax text set BadVr (es, s, _) h = absurd (not_elements syntax 0 Filled 0 text BadVr es [] h s)
spelled_fault syntax text set OddLength (es, s, _) h = absurd (not_elements syntax 0 Filled 0 text OddLength es [] h s)
spelled_fault syntax text set Depth (es, s, _) h = absurd (not_elements syntax 0 Filled 0 text Depth es [] h s)
spelled_fault syntax text set BadItem (es, s, _) h = absurd (not_elements syntax 0 Filled 0 text BadItem es [] h s)
