-- What is printed is the order of the lines.
use Rattle.vms_stream.proofs.Common.{output-in_order}
use Rattle.vms_stream.proofs.TextOrder.{printed-in_order}
use Rattle.vms_wait_laws.proofs.orders.texts_print_in_order.Goals as goal

pub returns-clause-prints : goal.returns-clause-prints
returns-clause-prints g c outcomes lines led = printed-in_order g.T.OrderedTexts.texts outcomes lines led

pub returns-clause-writes : goal.returns-clause-writes
returns-clause-writes g c outcomes lines led = output-in_order g.T.OrderedTexts.texts outcomes lines led
