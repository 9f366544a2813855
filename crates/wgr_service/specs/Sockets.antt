-- Where a connection of a socket came: at the address, or at the socket of orders.
use Rattle.wgr_service.specs.declared.network.Door.{Door}
use Rattle.wgr_service.specs.declared.network.Door.TheVariants as door
use Rattle.wgr_service.specs.declared.socket.Socket.{Socket}
use Rattle.wgr_service.specs.declared.socket.Socket.TheVariants as socket

abbrev pub came_to : {Host Listener Stream : Type 0} → Socket Host Listener Stream → Door
came_to (socket.Request stream) = door.Requests
came_to (socket.Order stream) = door.Orders
