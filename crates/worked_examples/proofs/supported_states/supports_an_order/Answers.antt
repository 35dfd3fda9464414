use Rattle.worked_examples.proofs.supported_states.Owned as example
use Rattle.worked_examples.proofs.supported_states.supports_an_order.Goals as goal

pub returns : goal.returns
returns c = record {
  asks = example.asks;
  plain = example.is_plain;
  stands = example.stands;
  legal = example.legal;
  taken = example.given_is_taken;
  employee_stands = example.employee_stands;
  employee_legal = example.employee_legal;
  numbered = example.numbered_is_taken;
  turned = example.turned_asks;
  turned_stands = example.turned_stands;
}
